pub mod Bounded
pub mod Bounds
pub mod Laws
pub mod Lengths
pub mod PieceLaws
pub mod Pieces
pub mod Refusing
