pub mod Naming
mod Examples
pub mod Places
pub mod BuiltIns
pub mod Keys
pub mod NameLists
pub mod Ancestors
pub mod ClassLists
pub mod UnitFaults
pub mod FirstBreaks
pub mod Members
pub mod FirstLaw
pub mod Leasts
pub mod Repeats
pub mod Variables
pub mod Outside
pub mod Walking
pub mod ClassMaps
