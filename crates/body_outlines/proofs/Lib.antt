pub mod OperandUses
pub mod TargetSums
pub mod Answered
pub mod Existing
pub mod Formed
