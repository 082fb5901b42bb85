pub mod Additions
pub mod Answers
pub mod Bases
pub mod Tables
