-- What callers rely on, in reading order
pub mod Widths
pub mod WidthOf
pub mod WidthLaws
pub mod IntegerTypes
pub mod Types
pub mod Attributes
pub mod DemoDialects
-- The laws of the texts
pub mod EqualTypes
pub mod IntegerTypeLaws
pub mod TypeLaws
pub mod AttributeLaws
