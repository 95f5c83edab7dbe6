pub mod Interned
pub mod Seeded
pub mod Texts
