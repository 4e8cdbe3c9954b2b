pub mod Bounding
pub mod Counting
pub mod Letting
pub mod Sweeping
pub mod Waiting
