pub mod Offsets
pub mod Lines
