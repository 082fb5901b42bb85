pub mod Asks
pub mod Answers
pub mod Written
pub mod Bound
pub mod Printed
pub mod Certain
pub mod Naive
pub mod Laws
