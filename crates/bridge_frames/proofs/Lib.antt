pub mod Seen
pub mod ForwardLaws
pub mod GreetingLaws
pub mod FrameLaws
