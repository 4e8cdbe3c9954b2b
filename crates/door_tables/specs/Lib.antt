pub mod Answering
pub mod Calls
pub mod Faults
pub mod Laws
pub mod Newer
pub mod Views
