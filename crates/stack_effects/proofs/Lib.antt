pub mod Calling
pub mod FrameLemmas
pub mod Zips
