pub mod Alike
pub mod Arguments
pub mod Meaning
pub mod Names
