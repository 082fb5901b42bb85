pub mod Cut
pub mod Encoded
pub mod Loop
