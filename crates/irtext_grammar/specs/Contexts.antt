-- What a context contains under an operation, and what its dialects say of it.
pub mod Formats
pub mod Held
pub mod Nested
