pub mod BodyLemmas
pub mod GivenLemmas
pub mod HeaderLemmas
pub mod SectionLemmas
