pub mod CopiesLaws
pub mod DurableLaws
pub mod FieldLaws
pub mod FollowLaws
pub mod RiseLaws
pub mod ToldLaws
pub mod WrittenLaws
