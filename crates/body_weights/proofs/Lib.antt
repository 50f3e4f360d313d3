pub mod Naming
pub mod Seeing
pub mod Telling
pub mod Weighing
