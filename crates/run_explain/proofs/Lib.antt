pub mod Comparing
pub mod Naming
pub mod Told
pub mod Noting
pub mod Turning
pub mod Alike
pub mod Sought
pub mod ReasonsTold
