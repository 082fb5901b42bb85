pub mod Meanings
pub mod Base
pub mod Laws
pub mod Admissible
