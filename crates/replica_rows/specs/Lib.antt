pub mod Rows
pub mod Memory
pub mod Changes
pub mod Steps
pub mod Reading
pub mod ReadingSteps
