pub mod RowWeights
pub mod Standing
