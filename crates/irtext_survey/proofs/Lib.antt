-- Lemmas on the walk over a root.
pub mod Finding
pub mod Looping
pub mod Marking
pub mod Mentions
pub mod NotedThere
pub mod Passing
pub mod Placing
pub mod Reading
pub mod Related
pub mod Scopes
pub mod SectionRead
pub mod Skipping
pub mod Spelled
pub mod Stepping
pub mod Telling
pub mod Uses
