pub mod DeclaredTypes
pub mod MoreLemmas
pub mod OwnClasses
pub mod PassingLemmas
pub mod RowLemmas
pub mod Walking
pub mod Weights
