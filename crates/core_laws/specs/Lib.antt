pub mod Turns
pub mod Laws
pub mod Histories
pub mod Live
