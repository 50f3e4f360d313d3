pub mod Marking
pub mod Looking
pub mod Naming
pub mod Sharing
pub mod Steps
pub mod Setting
