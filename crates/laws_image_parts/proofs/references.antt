pub mod BoundLemmas
pub mod OneSpelling
pub mod TidyLemmas
