pub mod Firsts
pub mod Ending
pub mod Going
pub mod Unhandled
