pub mod ExchangeLaws
pub mod Walking
pub mod SentLaws
pub mod Paths
pub mod ToldLaws
pub mod Following
