pub mod AutomaticLaws
pub mod BlankLaws
pub mod HomeLaws
pub mod PrefixLaws
pub mod RowLaws
pub mod TwiceLaws
