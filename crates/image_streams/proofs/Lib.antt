pub mod Counting
pub mod Roots
pub mod Steps
