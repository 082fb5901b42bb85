pub mod Deciding
pub mod Following
pub mod Answering
pub mod Restarting
pub mod Skipping
pub mod Walking
pub mod Unread
