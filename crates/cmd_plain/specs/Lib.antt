pub mod Asked
pub mod Base
pub mod Commands
pub mod Journaled
pub mod Runs
pub mod Written
pub mod Explained
pub mod Audited
