pub mod DemoFormats
pub mod TypeTexts
