pub mod Canon
pub mod Sorting
pub mod Terms
