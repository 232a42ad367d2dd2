pub mod Rooms
pub mod Readiness
pub mod Counts
