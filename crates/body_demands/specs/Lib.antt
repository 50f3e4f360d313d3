pub mod Asked
pub mod Unmet
