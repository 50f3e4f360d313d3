pub mod InBounds
pub mod Tidy
