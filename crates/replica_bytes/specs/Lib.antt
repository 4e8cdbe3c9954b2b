pub mod Spelling
pub mod Values
pub mod Stores
pub mod Memory
pub mod Laws
