pub mod Shown
pub mod Stale
pub mod Laws
pub mod Rows
