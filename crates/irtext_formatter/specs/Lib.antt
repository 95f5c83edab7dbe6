pub mod Formatted
pub mod Input
pub mod Keys
pub mod Lines
pub mod Misfits
pub mod Rows
pub mod Stands
pub mod Unprinted
