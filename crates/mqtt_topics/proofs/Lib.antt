pub mod LevelLaws
pub mod VerdictLaws
pub mod Testing
pub mod ShareLaws
