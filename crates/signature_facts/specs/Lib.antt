pub mod Facts
pub mod Owners
pub mod Scanning
pub mod Sizes
