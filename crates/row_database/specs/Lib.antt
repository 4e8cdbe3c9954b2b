pub mod Copied
pub mod Files
pub mod Opening
