pub mod LineLemmas
pub mod MethodLemmas
pub mod WholeLemmas
