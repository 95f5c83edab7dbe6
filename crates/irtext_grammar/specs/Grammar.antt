-- What a text parses as: trees, and the section after a root.
pub mod Forest
pub mod Tree
pub mod Reads
pub mod Section
pub mod Marked
pub mod Bare
