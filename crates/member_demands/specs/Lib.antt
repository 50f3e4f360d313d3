pub mod Groups
pub mod Semantics
