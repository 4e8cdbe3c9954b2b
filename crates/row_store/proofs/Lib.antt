pub mod CellLemmas
pub mod Keys
pub mod Leaving
pub mod Neighbours
pub mod Noting
pub mod Sorted
