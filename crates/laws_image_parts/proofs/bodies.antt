pub mod BodyRows
pub mod LoadedLemmas
