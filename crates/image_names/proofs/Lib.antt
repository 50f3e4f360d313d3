pub mod Agreeing
pub mod Ready
pub mod Members
pub mod Strings
pub mod Whole
