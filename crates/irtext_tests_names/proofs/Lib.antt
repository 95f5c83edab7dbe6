-- Lemmas that several rows share.
pub mod Premises
