pub mod Buffering
pub mod Cutting
pub mod Steadying
