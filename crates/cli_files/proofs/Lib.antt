pub mod Listing
pub mod Looking
pub mod Reading
pub mod Takeable
