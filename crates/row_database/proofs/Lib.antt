pub mod Copies
pub mod Found
