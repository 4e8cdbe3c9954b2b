mod AgainLaws
pub mod AnswerLaws
mod ApartLaws
mod BeginningLaws
mod BusyLaws
pub mod ClientLaws
mod CodeLaws
mod CopyLaws
mod DueLaws
mod EndLaws
mod FlushLaws
mod FlyLaws
mod HereLaws
mod NumberLaws
pub mod OpenLaws
mod OutcomeLaws
mod OverLaws
mod OwedLaws
mod OwnLaws
mod QueueLaws
mod ReleasingLaws
mod SentLaws
mod ShapeLaws
mod ShownLaws
mod UnansweredLaws
pub mod WalkLaws
mod WillLaws
