pub mod Told
pub mod Choices
pub mod Claims
pub mod Forms
pub mod Parts
pub mod Marks
pub mod Claimed
pub mod Verdicts
