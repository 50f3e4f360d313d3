pub mod Growing
pub mod RowParts
pub mod TypeNodes
