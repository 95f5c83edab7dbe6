pub mod Growing
pub mod Written
pub mod Whole
pub mod Opened
pub mod Fronts
