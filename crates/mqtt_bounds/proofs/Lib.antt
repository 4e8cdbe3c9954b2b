pub mod Ends
pub mod Growing
pub mod LengthLaws
pub mod Merging
pub mod Refusing
pub mod Within
