-- What is printable, and what is printed for operations, regions and blocks.
pub mod Shows
pub mod Separator
pub mod Calls
pub mod Items
pub mod Enclosed
pub mod OpPrinters
pub mod Refused
pub mod Printed
