pub mod Turning
pub mod Checked
pub mod Growing
