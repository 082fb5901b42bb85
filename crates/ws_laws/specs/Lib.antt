pub mod Logs
pub mod Keeping
pub mod Giving
pub mod Folds
pub mod Replays
pub mod Examples
