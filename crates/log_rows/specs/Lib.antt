-- The texts of the rows of a log.
pub mod Rows
pub mod Fields
pub mod Whole
