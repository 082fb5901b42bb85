pub mod Sets
pub mod Values
pub mod Distinct
pub mod Asking
pub mod Chosen
pub mod Unified
pub mod Copied
pub mod Sent
mod InHand
