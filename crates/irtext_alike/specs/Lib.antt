pub mod Alike
pub mod Shapes
pub mod First
pub mod Texts
pub mod Each
