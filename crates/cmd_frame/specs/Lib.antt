pub mod Completeness
pub mod Devices
pub mod Outputs
pub mod Rows
pub mod Statuses
