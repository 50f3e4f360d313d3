pub mod Zips
pub mod Entries
pub mod Shorts
pub mod OwnedRows
pub mod Orders
pub mod Indexes
