-- Names, lists, dictionaries, headers and pieces as they were parsed, with what they represent.
pub mod Arguments
pub mod Beside
pub mod Canonical
pub mod Coming
pub mod Entries
pub mod Fronts
pub mod Headers
pub mod Ids
pub mod Kinds
pub mod Lists
pub mod Named
pub mod Pieces
pub mod Results
pub mod Steps
