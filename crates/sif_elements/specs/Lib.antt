pub mod Places
pub mod Reading
pub mod Steps
pub mod Told
pub mod Answered
pub mod Turns
pub mod Words
