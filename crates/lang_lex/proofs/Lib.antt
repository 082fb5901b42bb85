pub mod Carried
pub mod Longest
pub mod Places
pub mod Stepped
