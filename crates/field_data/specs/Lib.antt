pub mod Kinds
pub mod Walking
