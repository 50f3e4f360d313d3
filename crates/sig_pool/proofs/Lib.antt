mod Building
mod KeyLaws
mod KeyLists
pub mod PoolLaws
mod Replacing
mod Storing
