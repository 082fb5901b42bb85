pub mod Cutting
pub mod Prefixes
pub mod Opening
pub mod Continuing
pub mod Turning
pub mod Texts
pub mod Legal
