-- Locations: they are parsed back, and a bound on their nesting changes nothing.
pub mod Begins
pub mod Integers
pub mod GivesBack
pub mod RestLengths
pub mod LocationRests
pub mod Bounds
pub mod Parts
pub mod Kinds
pub mod ComesBack
