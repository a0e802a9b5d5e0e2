pub mod ByteLaws
pub mod LineLaws
pub mod WalkLaws
pub mod RunLaws
pub mod SignLaws
pub mod StandsLaws
pub mod DullLaws
