pub mod Attributed
pub mod Named
