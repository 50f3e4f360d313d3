pub mod Short
pub mod Tidy
