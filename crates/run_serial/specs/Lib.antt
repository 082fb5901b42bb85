pub mod Rests
pub mod Meanings
pub mod Runs
pub mod Trails
