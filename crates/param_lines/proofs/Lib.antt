pub mod CappedLemmas
pub mod KeyLemmas
