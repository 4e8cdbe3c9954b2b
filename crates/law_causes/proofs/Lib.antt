pub mod CauseLaws
pub mod Causing
pub mod ClearedLaws
pub mod CopyLaws
mod Covered
pub mod DisconnectLaws
pub mod EndLaws
pub mod Ending
mod Equals
pub mod Evicting
pub mod Expiring
pub mod Farewells
pub mod GotLaws
pub mod Having
mod InUseLaws
mod LastLaws
pub mod Lower
mod Opened
pub mod Overs
mod RequestLaws
mod Requesting
pub mod Stores
pub mod Tidy
pub mod TidyDue
pub mod TidyPieces
mod UsedCodes
pub mod Walk
