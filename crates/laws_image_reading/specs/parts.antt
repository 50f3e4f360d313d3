pub mod Attributes
pub mod Generics
pub mod Held
pub mod Known
pub mod Members
pub mod Ranges
pub mod Types
pub mod Whole
