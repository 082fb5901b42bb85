pub mod Streams
pub mod Ends
pub mod Curates
