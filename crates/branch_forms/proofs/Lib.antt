pub mod Between
pub mod Choices
pub mod Measure
