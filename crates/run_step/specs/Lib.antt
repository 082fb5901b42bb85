pub mod Turns
pub mod Meanings
