pub mod Members
pub mod Namings
pub mod Readable
pub mod Texts
