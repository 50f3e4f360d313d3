pub mod Emptied
pub mod Finding
pub mod Nested
