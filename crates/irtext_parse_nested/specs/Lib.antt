-- What the parsers of nested text promise each other: the names, and the open frames.
pub mod OpenOperation
pub mod Read
pub mod Ends
pub mod Leaving
pub mod Blocks
pub mod Beginning
pub mod Later
