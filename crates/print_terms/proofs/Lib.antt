pub mod Rows
pub mod Lists
pub mod TypeLayers
mod TypeArms
mod Owners
mod Paths
mod ShapeRows
mod Chains
mod Counts
mod Twins
