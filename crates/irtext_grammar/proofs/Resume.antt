-- A parse described from its open frames: its turns, its result where no action can change the state, and that its bounds make no
-- difference.
pub mod Frames
pub mod Front
pub mod Unbounded
pub mod Turns
pub mod Failed
pub mod Weights
mod Rows
