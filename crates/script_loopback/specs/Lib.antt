pub mod Carrying
pub mod Faults
pub mod Honest
pub mod Hosts
pub mod Network
