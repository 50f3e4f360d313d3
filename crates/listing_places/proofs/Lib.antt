pub mod Nodes
mod Places
mod Sizes
