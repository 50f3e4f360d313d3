pub mod Bodies
pub mod Loaded
