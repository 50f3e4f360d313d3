pub mod Denoted
pub mod Merited
