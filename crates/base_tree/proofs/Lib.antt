pub mod Sides
pub mod Changes
pub mod Keeping
pub mod Passing
pub mod Lengths
pub mod Gathering
pub mod Places
