mod Lists
mod Placing
pub mod Raising
mod Clients
mod Cuts
pub mod Lanes
mod Said
mod Walked
mod Marks
mod Counted
mod Kept
pub mod Naming
mod Opening
pub mod OneNode
mod Reached
mod Either
