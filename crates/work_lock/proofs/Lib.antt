pub mod Histories
pub mod Lists
pub mod SeatLists
mod Totals
mod Views
mod TurnSteps
mod SeatSteps
mod Ends
mod Finishes
