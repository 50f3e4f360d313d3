pub mod Laws
pub mod Productions
pub mod Remaining
