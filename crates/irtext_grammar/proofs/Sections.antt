-- The section after a root: its indices, its entries, and how they are parsed back.
pub mod AfterRoot
pub mod Back
pub mod Marked
pub mod Bare
pub mod MarksWritten
pub mod Once
pub mod Content
pub mod Kept
pub mod EntryRules
pub mod Indices
pub mod SharedOnce
