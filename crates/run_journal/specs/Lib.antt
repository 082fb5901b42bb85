pub mod Format
pub mod Journals
pub mod Damage
pub mod Faults
pub mod Answers
pub mod Taken
