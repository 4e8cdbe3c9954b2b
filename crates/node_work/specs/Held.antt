-- What is done to what a node holds.
pub mod Bridge
pub mod Calling
pub mod Connections
pub mod Feeding
pub mod Making
pub mod Sessions
