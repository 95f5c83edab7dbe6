pub mod Scripts
pub mod Owned
pub mod Found
pub mod Root
