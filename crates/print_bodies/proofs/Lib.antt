mod Counting
pub mod Rows
