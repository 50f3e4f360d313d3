pub mod Chains
pub mod Content
pub mod Filled
pub mod Finds
pub mod Hash
pub mod Heap
pub mod LookUp
pub mod Written
