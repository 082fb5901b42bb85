pub mod Folds
pub mod Returns
pub mod Stands
