mod Words
mod Commands
mod Scripts
pub mod Nodes
