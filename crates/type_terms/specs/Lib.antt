pub mod Depth
pub mod Hashing
pub mod HeldIds
pub mod Nodes
pub mod Order
pub mod Same
