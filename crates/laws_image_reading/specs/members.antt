pub mod Bounded
pub mod Demands
