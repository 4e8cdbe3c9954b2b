pub mod Answers
pub mod Hosts
pub mod Members
pub mod Resources
pub mod Status
