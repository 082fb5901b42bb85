pub mod Serially
pub mod Keeping
pub mod Holding
pub mod Undoing
pub mod Naming
