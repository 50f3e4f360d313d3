pub mod Nodes
pub mod References
pub mod Accessors
pub mod Entries
