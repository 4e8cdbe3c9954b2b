pub mod Levels
pub mod Topics
pub mod Testing
pub mod Matching
pub mod Laws
