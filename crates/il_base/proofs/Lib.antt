pub mod Places
pub mod Signed
pub mod Stores
