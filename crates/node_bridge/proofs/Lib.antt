pub mod Telling
pub mod Shipping
