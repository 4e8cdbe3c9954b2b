pub mod Dropping
pub mod Editing
