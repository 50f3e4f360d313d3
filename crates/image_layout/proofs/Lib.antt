pub mod IndexLemmas
pub mod ReadLemmas
pub mod ReferenceLemmas
pub mod RootLemmas
pub mod StreamLemmas
