pub mod Numbers
pub mod Bytes
pub mod Texts
pub mod Names
pub mod Laws
