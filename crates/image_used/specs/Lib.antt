pub mod Going
pub mod Spreading
