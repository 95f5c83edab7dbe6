pub mod Newlines
pub mod Jsons
pub mod Places
