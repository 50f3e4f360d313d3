pub mod Key
pub mod Pool
pub mod Reached
pub mod Replaced
pub mod Shapes
pub mod Stored
pub mod Terms
pub mod Visits
