pub mod Answering
pub mod Calls
pub mod Connected
pub mod Faults
pub mod Laws
pub mod Limits
pub mod Views
