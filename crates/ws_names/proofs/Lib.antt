pub mod Greatest
pub mod Images
pub mod Indexed
pub mod Kept
