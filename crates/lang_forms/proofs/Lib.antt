pub mod Items
pub mod Walked
