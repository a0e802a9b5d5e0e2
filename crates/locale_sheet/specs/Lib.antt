pub mod Known
pub mod Sheets
pub mod Words
pub mod Names
