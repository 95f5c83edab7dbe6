-- What the parsers of nested text return is what the grammar parses, and their bounds are enough.
pub mod Leaving
pub mod Alike
pub mod Bound
pub mod Heads
pub mod Steps
pub mod Loops
pub mod Found
pub mod Read
pub mod Tested
pub mod Whole
pub mod Outside
pub mod Formats
