pub mod AllSizes
pub mod ExternLemmas
pub mod FieldLemmas
pub mod PathNumbers
pub mod SizeWalks
pub mod TypeSizeLemmas
pub mod Unmapped
