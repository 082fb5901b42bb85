pub mod Ascii
pub mod Names
pub mod Blank
pub mod Called
pub mod Curators
pub mod Valid
pub mod Drawn
