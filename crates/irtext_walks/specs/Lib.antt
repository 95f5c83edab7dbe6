pub mod Iter
pub mod Kinds
pub mod Postorder
pub mod Siblings
pub mod Walks
