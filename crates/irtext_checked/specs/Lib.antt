pub mod Checked
pub mod Placing
pub mod Types
