-- Names as a text is parsed: the acts are those of the tree's script in its order, the first failure stays, and each item has a place of
-- its own.
pub mod Runs
pub mod Keeps
pub mod KeepsReading
pub mod Shorter
pub mod Places
pub mod Scripts
pub mod Follows
