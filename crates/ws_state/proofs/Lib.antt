pub mod Smallness
pub mod Keeping
pub mod Staying
pub mod Returning
pub mod Telling
