-- The parsers of one item's own parts return what the grammar parses.
pub mod Combined
pub mod Listed
pub mod Names
pub mod Types
pub mod Attributes
pub mod Pieces
pub mod Outside
pub mod Head
pub mod Lead
