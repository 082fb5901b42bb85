pub mod Crews
pub mod Refusals
pub mod Runs
pub mod Nulls
pub mod Written
pub mod Drilling
