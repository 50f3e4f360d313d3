pub mod Faulted
pub mod Holding
pub mod Indexed
pub mod ModuleParts
pub mod RunParts
pub mod Tables
pub mod Texts
pub mod Tiles
