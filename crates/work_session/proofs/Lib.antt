mod Staying
mod Serving
pub mod Running
mod Sent
mod Ran
mod WorkersSent
