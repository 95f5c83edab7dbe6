-- The open frames of the parser of locations; and the parsed entries of a section, and what applying them does
pub mod Frames
pub mod Plain
pub mod Sourced
pub mod Rules
pub mod Checked
pub mod Applied
pub mod Together
