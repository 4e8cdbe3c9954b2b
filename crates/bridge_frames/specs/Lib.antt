pub mod Kinds
pub mod Forwards
pub mod Greetings
pub mod Frames
pub mod Laws
pub mod Memory
