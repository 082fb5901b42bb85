pub mod Answering
pub mod Noting
