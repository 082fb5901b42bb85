pub mod Results
pub mod Pages
pub mod RowTexts
pub mod Saved
pub mod Refusals
