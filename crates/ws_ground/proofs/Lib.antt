pub mod Undoing
pub mod Trailing
pub mod Counting
