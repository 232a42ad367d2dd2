pub mod Windows
pub mod Added
pub mod Changed
pub mod Writes
pub mod Grows
pub mod Lengths
pub mod Views
pub mod Places
