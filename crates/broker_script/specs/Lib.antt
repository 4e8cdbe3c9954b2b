pub mod Line
pub mod Fault
pub mod Script
pub mod Laws
