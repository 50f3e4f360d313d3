pub mod Climbing
pub mod Cores
pub mod Fresh
pub mod Making
pub mod Notes
pub mod Opening
pub mod Reading
