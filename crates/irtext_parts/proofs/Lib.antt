pub mod SpelledRead
pub mod Floats
pub mod Identifiers
pub mod Composed
pub mod HexDigits
