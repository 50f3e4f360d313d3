pub mod Adding
pub mod Found
pub mod Naming
