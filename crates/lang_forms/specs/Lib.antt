pub mod Statements
pub mod Views
