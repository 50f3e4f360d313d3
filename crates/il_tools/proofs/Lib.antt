pub mod CommandLemmas
pub mod FitsLemmas
pub mod WrittenLemmas
