pub mod Agreeing
pub mod Hearing
