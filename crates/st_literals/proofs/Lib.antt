pub mod Gathering
pub mod Numbering
pub mod Counted
pub mod Filling
pub mod Making
