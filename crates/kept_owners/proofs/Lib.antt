pub mod Climbing
pub mod Complete
pub mod Ids
pub mod Keeping
pub mod Members
pub mod Paths
pub mod Rounding
pub mod Shortness
