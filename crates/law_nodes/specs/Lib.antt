pub mod Amid
pub mod Lanes
pub mod Lives
pub mod Moves
pub mod States
