pub mod Faults
pub mod Formatting
pub mod Lines
pub mod Program
pub mod Roots
