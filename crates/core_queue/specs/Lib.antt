pub mod Queues
pub mod Settings
pub mod Programs
pub mod Wants
pub mod Updates
pub mod Events
pub mod Renewals
pub mod Order
