-- Steps of parsers.
pub mod NewPaths
pub mod Steps
pub mod Honest
pub mod NeverFailed
pub mod Leads
pub mod PlainStream
pub mod PartSteps
pub mod EntryIndices
pub mod FirstMissing
pub mod Answered
pub mod MarkerSteps
