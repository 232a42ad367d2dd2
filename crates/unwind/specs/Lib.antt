pub mod Unwinding
pub mod Once
