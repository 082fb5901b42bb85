pub mod Counted
pub mod Lined
pub mod Texts
pub mod Objects
pub mod Entries
pub mod Single
pub mod ChoiceTexts
pub mod Cuts
mod Histories
mod One
mod Printed
mod Having
