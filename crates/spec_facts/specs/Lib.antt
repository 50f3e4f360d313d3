pub mod Rounds
pub mod SpecMap
