pub mod Honesty
pub mod Joining
pub mod Turning
