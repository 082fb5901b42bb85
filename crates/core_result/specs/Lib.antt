pub mod Outer
pub mod Told
