pub mod Filters
pub mod Fits
pub mod Loops
pub mod Ordered
pub mod Sets
pub mod Wholes
