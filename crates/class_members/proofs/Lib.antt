pub mod Adding
pub mod Filling
pub mod Finding
pub mod Lists
pub mod Normals
pub mod Objects
pub mod Worlds
pub mod Writing
