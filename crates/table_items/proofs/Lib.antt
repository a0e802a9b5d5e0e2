pub mod LineLaws
pub mod SumLaws
pub mod FillLaws
pub mod RankedLaws
pub mod CharsLaws
pub mod MeaningLaws
