pub mod CensusLemmas
pub mod DepthBounds
pub mod OuterMembers
pub mod PassLemmas
pub mod SomeNames
pub mod Sweeps
