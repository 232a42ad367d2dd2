pub mod Marks
pub mod Stack
pub mod Flat
pub mod Watched
pub mod Moving
