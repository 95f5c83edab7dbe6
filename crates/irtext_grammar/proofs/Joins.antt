-- What a parser returns agrees with the grammar.
pub mod Answers
pub mod Tokens
pub mod Section
pub mod Lead
pub mod Attributes
pub mod Lists
pub mod Brackets
pub mod Dictionary
pub mod PartSteps
pub mod Body
