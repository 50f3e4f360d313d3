pub mod Lookup
pub mod Opcodes
pub mod Sizes
