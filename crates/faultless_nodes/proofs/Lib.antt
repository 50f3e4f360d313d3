mod Nodes
mod Unasked
