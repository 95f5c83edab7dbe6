-- Which causes the outcomes of parsers have, and at which places.
pub mod Outcomes
pub mod Tokens
pub mod Parts
pub mod Section
pub mod Nested
pub mod Found
