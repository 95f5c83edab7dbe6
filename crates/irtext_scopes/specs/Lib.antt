pub mod Names
pub mod Places
pub mod Scopes
pub mod Bindings
pub mod Tracker
