-- What arenas contain, and what a tree builds.
pub mod Graph
pub mod Build
pub mod Closed
pub mod Same
pub mod ReservedKeys
pub mod Identifiers
pub mod Links
pub mod Contents
pub mod Regained
pub mod Represents
pub mod RoundTrip
