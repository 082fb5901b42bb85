pub mod Firsts
pub mod Meanings
