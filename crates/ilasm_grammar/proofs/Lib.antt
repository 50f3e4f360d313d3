pub mod ChoiceLemmas
pub mod CountsLemmas
pub mod CourseLemmas
pub mod LeftmostLemmas
pub mod TableCheck
pub mod Tables
pub mod TableFacts
pub mod TableLemmas
pub mod IlasmFacts
pub mod NodesLemmas
pub mod PlaceLemmas
pub mod StepLemmas
pub mod LawLemmas
mod SpanLemmas
