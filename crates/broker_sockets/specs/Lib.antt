pub mod Answers
pub mod Binding
pub mod Buffers
pub mod Frames
pub mod Queued
pub mod Ready
pub mod Steady
pub mod Unsent
