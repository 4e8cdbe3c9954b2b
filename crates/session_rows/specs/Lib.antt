pub mod Changes
pub mod Durable
pub mod Fields
pub mod Reachable
pub mod Reading
pub mod Rows
