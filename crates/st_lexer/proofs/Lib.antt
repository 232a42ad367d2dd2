mod Examples
pub mod SpanLemmas
pub mod NumberLemmas
pub mod Fronts
pub mod Scanning
pub mod Runs
pub mod Quotes
pub mod Selectors
pub mod Sound
pub mod Cover
pub mod LexesLaw
pub mod Order
pub mod Spelled
pub mod Decimals
