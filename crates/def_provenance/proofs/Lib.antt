pub mod Noted
pub mod Scoped
pub mod Grounded
mod Images
mod Unified
mod Going
mod Telling
