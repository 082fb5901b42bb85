pub mod Same
pub mod OfKind
pub mod Mentioned
pub mod Entries
