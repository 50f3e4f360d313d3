pub mod Finding
pub mod Seeing
