pub mod Apart
pub mod Bits
pub mod FlagBounds
pub mod FlagLemmas
pub mod FlagNumbers
pub mod Gathered
pub mod PastShut
