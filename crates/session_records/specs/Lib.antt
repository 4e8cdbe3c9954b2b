pub mod Apart
pub mod Connections
pub mod Stored
pub mod Table
