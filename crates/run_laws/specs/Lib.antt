pub mod Renamed
pub mod Kept
pub mod Logged
pub mod Explained
