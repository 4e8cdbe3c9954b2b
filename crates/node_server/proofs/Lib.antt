pub mod Finding
pub mod Halting
pub mod Losing
pub mod Opened
pub mod Printed
pub mod Telling
