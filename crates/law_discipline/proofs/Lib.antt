pub mod Telling
pub mod Shown
pub mod Steps
pub mod Whole
pub mod Disciplining
