pub mod Finding
pub mod Machine
pub mod Made
pub mod Parsed
pub mod Reading
pub mod Scan
pub mod States
pub mod Verdict
