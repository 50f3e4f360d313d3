pub mod Spreading
pub mod Telling
pub mod Going
pub mod Ending
