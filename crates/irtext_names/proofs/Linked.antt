-- Names run the machine that reads acts one by one.
pub mod Mentions
pub mod Scopes
pub mod InPlace
pub mod Moving
pub mod Kept
pub mod Halves
pub mod Uses
pub mod Definitions
pub mod Outside
pub mod Steps
pub mod Placed
pub mod Regions
pub mod Interned
pub mod Passes
