pub mod Commands
pub mod Known
pub mod Texts
pub mod Turns
pub mod Meanings
