pub mod Rows
pub mod Sessions
pub mod Versions
pub mod Reading
pub mod Naming
