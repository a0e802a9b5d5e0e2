pub mod StepLaws
pub mod TurnLaws
pub mod LineLaws
pub mod PassedLaws
