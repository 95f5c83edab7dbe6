pub mod Formats
pub mod Conditions
pub mod Meetings
