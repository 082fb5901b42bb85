pub mod Offers
pub mod Crews
