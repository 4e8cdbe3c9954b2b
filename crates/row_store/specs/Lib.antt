pub mod Cells
pub mod ChangeLaws
pub mod Gathered
pub mod Leading
pub mod Noted
pub mod Rows
