-- The texts of errors.
pub mod Printed
pub mod Verification
