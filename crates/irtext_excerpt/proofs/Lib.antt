pub mod Excerpts
pub mod Fitting
