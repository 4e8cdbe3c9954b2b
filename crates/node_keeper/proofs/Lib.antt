pub mod Batching
pub mod Keeping
pub mod Opening
