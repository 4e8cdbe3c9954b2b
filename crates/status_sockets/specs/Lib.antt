pub mod Desks
pub mod Shown
pub mod Waiting
