pub mod Planned
pub mod Settled
