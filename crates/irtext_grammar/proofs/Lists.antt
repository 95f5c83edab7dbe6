-- Lists, texts, numbers and dictionaries.
pub mod SameText
pub mod Lists
pub mod Each
pub mod Sets
pub mod InOrder
pub mod Fresh
pub mod Numbering
pub mod Dictionaries
pub mod Stored
pub mod Numbers
pub mod Ascii
