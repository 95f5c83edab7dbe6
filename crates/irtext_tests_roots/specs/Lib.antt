pub mod Apart
pub mod Carried
