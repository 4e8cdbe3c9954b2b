pub mod Bridging
pub mod Calling
pub mod Homes
pub mod Making
pub mod Spelled
pub mod Storing
pub mod Telling
pub mod Working
