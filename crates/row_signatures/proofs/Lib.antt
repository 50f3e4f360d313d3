pub mod Holding
pub mod Columns
