-- What printers append, and what locations are printed as.
pub mod Entries
pub mod Errors
pub mod Given
pub mod Items
pub mod Mentions
pub mod Printers
pub mod Refusals
