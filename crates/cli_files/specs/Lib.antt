pub mod Flaws
pub mod Judging
pub mod Laws
pub mod Listed
pub mod Looking
pub mod Passwords
pub mod Users
pub mod Watching
