pub mod Codes
pub mod Lane
pub mod Buffer
pub mod Shipped
pub mod Confirmed
pub mod Links
pub mod More
pub mod Laws
