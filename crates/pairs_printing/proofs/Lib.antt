pub mod DigitLaws
pub mod TextLaws
pub mod LineLaws
