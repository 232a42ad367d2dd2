mod Walked
mod Plain
mod Searches
pub mod Alike
mod Own
