pub mod Laws
pub mod cells
pub mod order
pub mod members
pub mod demands
pub mod kinds
pub mod parts
