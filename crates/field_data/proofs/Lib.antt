pub mod Sized
pub mod Walked
