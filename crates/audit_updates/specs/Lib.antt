pub mod Updates
pub mod Settings
pub mod Programs
pub mod Wants
pub mod Standings
pub mod Events
pub mod Renewals
pub mod Order
