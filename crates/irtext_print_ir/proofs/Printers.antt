-- What is printable.
pub mod Requirements
pub mod Calls
pub mod Refused
pub mod OpPrinters
pub mod Roots
pub mod Gathered
pub mod Ends
