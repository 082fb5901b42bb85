pub mod Graphs
pub mod Moves
pub mod Columns
