-- What a text is to a parser, with the cause and place of each fault, and what a parser changes.
pub mod NewPaths
pub mod Positions
pub mod Locations
pub mod RestLengths
pub mod Parts
pub mod Directives
pub mod Operations
pub mod Section
pub mod Streams
pub mod Refusals
pub mod Marker
pub mod DialectNames
