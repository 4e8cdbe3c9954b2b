mod AgreedLaws
pub mod AliasLaws
pub mod ArrivalLaws
pub mod BusyLaws
pub mod CallLaws
mod DurableLaws
pub mod ElseLaws
pub mod EventLaws
pub mod ExchangeLaws
pub mod FlyingLaws
mod LeadLaws
pub mod LeastLaws
pub mod LiftLaws
mod MoveLaws
pub mod OutcomeLaws
pub mod ProjectLaws
pub mod QuietLaws
mod ReachLaws
pub mod ReleaseLaws
pub mod ReleasedLaws
mod RemovedLaws
pub mod ReopenedLaws
pub mod ReplyLaws
mod RestLaws
pub mod RoomLaws
pub mod SilenceLaws
mod SinceLaws
pub mod SizeLaws
mod SpelledLaws
pub mod StepLaws
mod ToldLaws
mod TurnLaws
