pub mod Page
pub mod Escapes
pub mod Spaced
pub mod Parts
pub mod Laws
