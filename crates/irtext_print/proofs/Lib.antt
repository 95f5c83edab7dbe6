pub mod Digits
pub mod Givens
pub mod Lone
pub mod Noted
pub mod Printers
pub mod Sections
pub mod Texts
pub mod Written
