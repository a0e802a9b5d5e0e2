pub mod SpotLaws
pub mod SubjectLaws
pub mod CharsLaws
pub mod KeyLaws
pub mod NumberLaws
pub mod SqueezeLaws
pub mod BitLaws
