-- What is written is parsed back.
pub mod WithPlaces
