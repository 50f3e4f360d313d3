pub mod FrontLemmas
pub mod ReadLemmas
pub mod RunLemmas
