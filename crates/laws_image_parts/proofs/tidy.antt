pub mod ShortLemmas
pub mod TidyLemmas
