pub mod OrderLaws
pub mod CompareLaws
pub mod WriteLaws
pub mod StartLaws
pub mod PlaceLaws
pub mod SortedLaws
pub mod StoredLaws
