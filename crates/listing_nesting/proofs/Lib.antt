mod Walks
pub mod Formed
pub mod Lacks
pub mod Data
mod Types
mod Absent
