pub mod RowMeanings
pub mod TypeKinds
