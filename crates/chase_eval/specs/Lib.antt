pub mod Seen
pub mod Counted
pub mod Watched
pub mod Touching
