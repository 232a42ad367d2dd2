pub mod Turns
pub mod Searches
pub mod Alike
pub mod Own
