pub mod Texts
pub mod Spelling
pub mod Closing
pub mod Tables
pub mod Visiting
pub mod Kept
