pub mod Statuses
pub mod Devices
pub mod Reports
pub mod Outcomes
pub mod Commands
pub mod Claim
pub mod Ends
pub mod Told
