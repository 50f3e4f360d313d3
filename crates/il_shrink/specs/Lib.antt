pub mod Branches
pub mod Forms
pub mod Laws
pub mod Shrunk
pub mod ShrunkAll
