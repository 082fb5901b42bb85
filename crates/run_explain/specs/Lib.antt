pub mod Meanings
pub mod Texts
pub mod NoteMeanings
pub mod Turns
pub mod ReasonMeanings
