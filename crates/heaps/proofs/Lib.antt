pub mod BlobLemmas
pub mod ChainLemmas
pub mod Computed
pub mod ContentLemmas
pub mod FindsLemmas
pub mod HeapLemmas
