pub mod Ties
pub mod Parts
pub mod Members
pub mod Types
pub mod Whole
pub mod Outside
pub mod Outcome
