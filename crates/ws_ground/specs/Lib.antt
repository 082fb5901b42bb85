pub mod News
pub mod Trails
