pub mod Rows
pub mod Owners
pub mod Primitives
pub mod Shapes
pub mod Chains
pub mod Names
pub mod Lines
