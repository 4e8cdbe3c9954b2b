pub mod Confirming
pub mod Following
pub mod Framing
pub mod Mapping
pub mod Shipping
pub mod Telling
