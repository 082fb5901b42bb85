pub mod Lines
pub mod Upgrades
