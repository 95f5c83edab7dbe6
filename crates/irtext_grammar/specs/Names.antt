-- Which definition a name refers to: acts in the order in which a text is parsed, scopes, placeholders.
pub mod Script
pub mod Scopes
pub mod TextScopes
pub mod History
pub mod Placeholders
pub mod Acts
pub mod Plain
pub mod Resolves
pub mod LabelPlaces
