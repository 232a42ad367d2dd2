pub mod Known
pub mod VariablesStand
pub mod Assigned
