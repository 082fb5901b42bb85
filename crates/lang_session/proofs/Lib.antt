pub mod Suiting
pub mod Meeting
pub mod Texts
pub mod Decided
