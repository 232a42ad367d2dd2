pub mod Gained
pub mod Unhandled
