pub mod Labels
pub mod Making
pub mod Listing
