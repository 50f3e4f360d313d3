pub mod Building
pub mod Entries
pub mod Indexing
pub mod Landings
pub mod Members
pub mod Placed
pub mod Places
pub mod Walks
