-- What is promised of a root and of its section.
pub mod Supported
pub mod Root
pub mod PrintedBack
pub mod KeptRoot
pub mod LocationsBack
pub mod Section
pub mod ErrorCauses
