pub mod Configurations
pub mod Document
pub mod Homes
pub mod Table
