pub mod Calls
pub mod Dues
pub mod Listing
pub mod Rows
pub mod Seats
pub mod Wants
