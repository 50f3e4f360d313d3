pub mod ImageBytes
pub mod Laws
pub mod RowCounts
