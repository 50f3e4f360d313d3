pub mod Ids
pub mod Marked
pub mod Merged
pub mod More
pub mod Paths
pub mod Unions
