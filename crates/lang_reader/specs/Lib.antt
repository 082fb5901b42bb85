pub mod Answers
pub mod Facts
pub mod Places
pub mod Refusals
pub mod States
