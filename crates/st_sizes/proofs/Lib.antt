pub mod CodeLengths
pub mod Moves
pub mod MadeLengths
pub mod SmallPrograms
