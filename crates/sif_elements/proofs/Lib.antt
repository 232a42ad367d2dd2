mod Only
mod Ahead
mod TakenLemmas
mod Settling
mod Counts
mod Weighing
mod Weighed
mod Paid
mod TreeSizes
mod HeaderSizes
mod Sized
mod Readable
mod TextBytes
mod SmallReading
pub mod SmallLemmas
mod SmallExamples
pub mod StepLemmas
pub mod WordLemmas
