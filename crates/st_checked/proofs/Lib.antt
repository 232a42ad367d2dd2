pub mod CheckedClasses
pub mod Texts
pub mod AssignedBodies
pub mod DeclaredNames
pub mod AssignedNames
pub mod AssignedUnits
