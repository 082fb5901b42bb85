pub mod Onward
pub mod Sheets
pub mod Upgraded
