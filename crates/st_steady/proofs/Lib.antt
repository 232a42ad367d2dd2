pub mod Plain
pub mod Instructing
pub mod Kept
pub mod Rooms
pub mod Never
pub mod Laws
