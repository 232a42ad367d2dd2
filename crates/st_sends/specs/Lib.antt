pub mod Arguments
pub mod SendsFit
pub mod Fitting
