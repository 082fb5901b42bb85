pub mod Firsts
pub mod Reasons
pub mod Holding
pub mod Turns
pub mod Padding
pub mod Meeting
