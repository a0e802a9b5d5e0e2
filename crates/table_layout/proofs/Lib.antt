pub mod LayoutLaws
pub mod StartLaws
pub mod ToldLaws
pub mod KeyedLaws
pub mod BucketLaws
pub mod PartLaws
pub mod IndexLaws
pub mod CmpLaws
