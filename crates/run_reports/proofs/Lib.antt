pub mod LineLemmas
pub mod Placed
pub mod Merited
pub mod Ruled
pub mod Zips
