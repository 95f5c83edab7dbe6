pub mod Printers
