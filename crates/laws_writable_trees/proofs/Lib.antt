mod Accessors
mod Apart
mod Bodies
mod Bounds
pub mod Classes
mod Constants
pub mod Each
mod Filling
mod MemberBounds
pub mod Members
pub mod Names
mod Operands
pub mod Parts
mod Types
