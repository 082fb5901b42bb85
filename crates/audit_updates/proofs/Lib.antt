pub mod Deciding
pub mod Following
pub mod Walking
pub mod Answering
