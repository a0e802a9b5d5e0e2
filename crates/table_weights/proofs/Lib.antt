pub mod FindLaws
pub mod LevelLaws
pub mod QuoteLaws
pub mod PartLaws
pub mod MeasureLaws
