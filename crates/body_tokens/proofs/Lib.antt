pub mod Found
pub mod Room
pub mod Paths
pub mod Members
pub mod Uses
pub mod Searching
pub mod Checking
