pub mod Alike
pub mod Signed
pub mod Twice
