mod Preds
mod Unions
mod FirstResults
pub mod Gathered
mod NestedOperations
pub mod Siblings
pub mod Rounds
