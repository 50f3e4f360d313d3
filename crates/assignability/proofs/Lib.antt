pub mod DeclaredNames
pub mod FirstCyclic
pub mod Heights
pub mod LeadLemmas
pub mod LowHeights
pub mod Plain
pub mod WorldLemmas
