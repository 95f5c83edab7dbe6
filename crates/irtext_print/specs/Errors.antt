-- The texts of errors.
pub mod Located
