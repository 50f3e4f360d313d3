pub mod Collecting
pub mod Named
pub mod Tells
