pub mod Meanings
pub mod Held
pub mod Reached
pub mod Walks
pub mod Causes
