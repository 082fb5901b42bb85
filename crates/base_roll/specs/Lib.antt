pub mod Format
pub mod Rolls
pub mod Logging
pub mod Histories
pub mod Lives
pub mod Answers
