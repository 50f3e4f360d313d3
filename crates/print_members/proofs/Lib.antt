pub mod FlagRows
pub mod Rows
pub mod Steps
