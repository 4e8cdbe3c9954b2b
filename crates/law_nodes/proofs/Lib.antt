pub mod AmidLaws
pub mod LaneChanges
pub mod LaneRows
pub mod LifeLaws
pub mod MoveLaws
pub mod StateRows
