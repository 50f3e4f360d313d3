pub mod FieldPart
pub mod Filling
pub mod OwnedPart
pub mod Parts
pub mod TypePart
