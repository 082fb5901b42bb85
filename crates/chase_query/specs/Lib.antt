pub mod Meanings
pub mod Kinds
pub mod Laws
pub mod Mentioning
