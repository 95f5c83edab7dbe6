pub mod Reports
pub mod Standard
pub mod Statuses
pub mod Styles
pub mod Told
