pub mod Selected
pub mod Tries
pub mod Search
