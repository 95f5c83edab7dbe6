pub mod NumberedPlaces
