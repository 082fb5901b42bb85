pub mod Listed
pub mod Meanings
pub mod Maps
pub mod Candidates
pub mod Contents
pub mod Held
pub mod Hashed
