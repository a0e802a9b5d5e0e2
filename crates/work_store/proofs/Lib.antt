pub mod WayLaws
pub mod AreaLaws
pub mod SlotLaws
pub mod DepthLaws
pub mod SeekLaws
pub mod DeclareLaws
pub mod ListLaws
