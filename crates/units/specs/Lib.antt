pub mod Whole
pub mod Columns
