pub mod CheckedUnits
pub mod CheckedVariables
