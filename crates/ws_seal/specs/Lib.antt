pub mod Seals
pub mod Logs
pub mod Answers
pub mod Appends
pub mod Changes
