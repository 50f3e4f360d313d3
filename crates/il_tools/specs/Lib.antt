pub mod Assembled
pub mod Commands
pub mod Texts
