pub mod Pieces
pub mod Going
pub mod Places
mod Images
pub mod Moments
mod Counting
