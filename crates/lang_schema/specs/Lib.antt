pub mod Answers
pub mod Meanings
pub mod Pages
pub mod Relations
