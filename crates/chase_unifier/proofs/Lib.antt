pub mod Moving
pub mod Ends
pub mod Graphs
pub mod Going
mod Walked
mod Ground
