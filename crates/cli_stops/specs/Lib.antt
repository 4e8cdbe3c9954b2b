pub mod Answers
pub mod Causes
pub mod Faults
pub mod Stops
