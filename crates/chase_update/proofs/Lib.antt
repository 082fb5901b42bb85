pub mod Lookups
pub mod PassedBy
pub mod Namings
pub mod Standings
pub mod Wanting
pub mod Landing
pub mod Repairs
pub mod Shorter
pub mod Passed
pub mod Logging
mod Leading
pub mod Sent
