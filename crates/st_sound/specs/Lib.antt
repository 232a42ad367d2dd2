pub mod SoundStore
pub mod Receivers
pub mod Requests
pub mod SoundActions
pub mod KnownCollections
pub mod RowsFit
pub mod SoundRun
