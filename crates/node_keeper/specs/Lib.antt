pub mod BatchViews
pub mod Batches
pub mod Keeping
pub mod Names
pub mod Views
