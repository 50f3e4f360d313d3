pub mod Encloses
pub mod Enclosing
pub mod Owning
pub mod Ranges
