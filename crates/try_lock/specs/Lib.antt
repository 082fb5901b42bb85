pub mod Events
pub mod Own
pub mod Workers
