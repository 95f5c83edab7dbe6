-- A text has one tree, and what is spelled is parsed back.
pub mod Nested
pub mod Unique
pub mod Sequences
pub mod Follows
pub mod Apart
pub mod Back
pub mod Placed
pub mod Canonical
pub mod BackTree
pub mod Lenient
pub mod WholeTree
pub mod PartsOfFormats
pub mod UniqueRoot
pub mod ListReadings
