pub mod Words
pub mod Paths
pub mod Terms
pub mod Signatures
pub mod References
