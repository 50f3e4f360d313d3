pub mod Members
pub mod Structured
