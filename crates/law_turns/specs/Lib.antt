pub mod AfterTurns
pub mod Laws
pub mod Calls
