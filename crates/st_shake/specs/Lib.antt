pub mod Needed
pub mod Shaken
pub mod Table
