pub mod Rooms
pub mod Vectors
