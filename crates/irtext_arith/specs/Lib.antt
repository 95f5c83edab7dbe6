-- What callers rely on, in reading order
pub mod Predicates
pub mod PredicateLaws
pub mod Types
pub mod TypeLaws
pub mod TypeValues
pub mod Attributes
pub mod AttributeLaws
pub mod AttributeValues
pub mod Operations
