pub mod FlatTurns
pub mod Calls
pub mod Underway
pub mod Going
