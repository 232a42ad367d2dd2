pub mod Firsts
pub mod RunToEnd
