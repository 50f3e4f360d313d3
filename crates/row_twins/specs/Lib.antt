pub mod Linked
pub mod Twins
