pub mod Balancer
pub mod Dropped
pub mod Figures
pub mod Finding
pub mod Flaws
pub mod Report
pub mod Sent
