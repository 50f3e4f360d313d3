pub mod OwnerLaws
pub mod OwnerOrder
pub mod Ranks
pub mod Rising
