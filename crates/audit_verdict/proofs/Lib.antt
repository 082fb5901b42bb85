pub mod Lined
pub mod Growing
pub mod Judged
pub mod Lines
