pub mod AdmitLaws
pub mod ByteLaws
pub mod CountLaws
pub mod Deciding
pub mod FilterLaws
pub mod LineLaws
pub mod StepLaws
pub mod TextLaws
