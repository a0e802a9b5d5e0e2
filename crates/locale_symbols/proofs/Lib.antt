pub mod UnfitLaws
pub mod HeadLaws
pub mod NewLaws
pub mod SymbolLaws
pub mod PaperLaws
