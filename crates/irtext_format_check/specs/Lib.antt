pub mod Conditions
pub mod Directives
