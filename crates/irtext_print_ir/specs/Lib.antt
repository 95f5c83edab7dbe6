-- What printable values print as, and what errors print as.
pub mod Printers
pub mod Errors
