pub mod Sealing
pub mod Gates
pub mod Hiding
pub mod SoFar
pub mod Appending
pub mod OneLog
pub mod Changed
