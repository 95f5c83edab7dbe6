mod Scopes
mod Noted
mod Owners
mod Depth
mod Indices
mod Reasons
pub mod Walk
pub mod StaysClosed
