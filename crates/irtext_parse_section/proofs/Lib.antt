-- Steps of the parsers of a section, of its check, and of what its entries give
pub mod HeadSteps
pub mod OnlyPaths
pub mod PairSteps
pub mod EntrySteps
pub mod LoopText
pub mod EntryLists
pub mod LoopSteps
pub mod References
pub mod AppliedEntries
pub mod SectionSteps
pub mod Frames
pub mod Items
mod PlainEntries
pub mod OnlyEntry
