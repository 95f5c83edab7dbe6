pub mod Found
pub mod Mentioned
pub mod Notes
pub mod Root
pub mod Section
pub mod Standing
pub mod Walk
