pub mod Tuples
pub mod Written
pub mod OtherRelations
pub mod Settling
pub mod Forces
mod Touched
