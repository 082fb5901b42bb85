pub mod Puts
pub mod Courses
pub mod Reasons
pub mod Notes
pub mod Truths
pub mod Laws
pub mod ExplainedRows
