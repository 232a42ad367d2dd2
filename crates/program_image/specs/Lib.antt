pub mod Spelled
pub mod Classes
pub mod Tables
pub mod Images
pub mod Finding
