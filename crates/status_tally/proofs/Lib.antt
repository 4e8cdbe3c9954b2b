pub mod Counted
pub mod Heard
pub mod Inside
pub mod Longest
