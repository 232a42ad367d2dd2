pub mod BuiltObjects
pub mod KnownBuilt
pub mod BuiltRun
pub mod NamedSymbols
pub mod KnownNumbers
pub mod CheckedFiles
