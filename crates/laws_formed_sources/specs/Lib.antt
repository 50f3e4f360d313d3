pub mod Laws
pub mod sources
pub mod bodies
pub mod members
pub mod contents
