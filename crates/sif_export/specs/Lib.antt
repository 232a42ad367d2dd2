pub mod Words
pub mod TreeWords
pub mod ExportText
pub mod RoundTrip
pub mod Canonical
