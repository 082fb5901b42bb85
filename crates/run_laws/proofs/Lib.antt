pub mod Closed
pub mod Matched
pub mod Steps
pub mod Attempts
pub mod Fitting
pub mod Rules
pub mod Closing
pub mod Enacting
pub mod Serial
pub mod Leaving
pub mod Nulls
pub mod Renaming
pub mod Names
pub mod Holding
pub mod Inherited
pub mod Based
pub mod SavedSessions
mod Openings
mod Writes
mod Runs
mod Recovering
mod Numbered
