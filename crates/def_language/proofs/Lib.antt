mod Ascii
mod Sorts
mod Front
mod Pages
mod Closure
mod Many
mod Again
mod Called
mod Means
mod Spoken
mod Paper
mod Runs
mod Build
mod Acts
mod Whole
pub mod Utf
mod Round
mod Only
mod Sole
mod Stated
mod Heard
mod Listened
mod Placed
mod Passed
pub mod Grows
mod Kept
mod Answered
mod Held
mod Once
mod Direct
mod Alone
pub mod Digits
pub mod Lined
pub mod Spelled
pub mod Bound
pub mod Formats
pub mod Steps
pub mod HeardInputs
pub mod SpokenInputs
