-- How what matches is found, level by level; what it is stands in `Tries`.
pub mod Seeking
pub mod Steps
pub mod Onward
pub mod Counting
pub mod Filing
pub mod Branching
