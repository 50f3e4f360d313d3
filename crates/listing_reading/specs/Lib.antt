pub mod BelowMasks
pub mod Below
pub mod Numbered
pub mod Rows
pub mod Laws
