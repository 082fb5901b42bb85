pub mod Showing
pub mod Telling
pub mod Staleness
pub mod Walking
pub mod Doing
