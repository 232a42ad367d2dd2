pub mod Ahead
pub mod ArraySteps
pub mod Arrays
pub mod Classes
pub mod Complete
pub mod Depth
mod Examples
mod FaultExamples
pub mod Follow
pub mod Found
pub mod Larges
pub mod NameSteps
pub mod Rest
pub mod Runs
pub mod Shape
pub mod Sound
pub mod SoundLevels
pub mod Steps
pub mod TreeParts
pub mod Verdicts
pub mod Viable
pub mod Words
