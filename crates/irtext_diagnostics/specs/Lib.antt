pub mod Messages
pub mod Json
pub mod Causes
pub mod Utf8
pub mod Suggestions
