pub mod Generated
pub mod Page
