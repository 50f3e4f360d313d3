pub mod Enclosed
pub mod Ranges
