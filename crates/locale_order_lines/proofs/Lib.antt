pub mod FactLaws
pub mod AgainLaws
pub mod RangeLaws
pub mod OwnLaws
pub mod RowLaws
pub mod StepLaws
pub mod NameLaws
pub mod UndefinedLaws
