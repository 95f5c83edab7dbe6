pub mod States
pub mod Numbered
pub mod FromText
