pub mod Holding
pub mod Lanes
pub mod Links
pub mod Patience
