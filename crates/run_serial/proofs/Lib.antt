pub mod Making
pub mod Running
pub mod Limits
pub mod Onward
pub mod Leaving
