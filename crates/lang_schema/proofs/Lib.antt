pub mod Named
pub mod Known
pub mod Noted
pub mod Eached
pub mod Fitted
pub mod Lined
mod Starting
mod Tupled
mod Digits
