pub mod Filling
pub mod Owning
pub mod Telling
pub mod Weighing
