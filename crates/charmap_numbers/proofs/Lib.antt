pub mod SeekLaws
pub mod KeptLaws
