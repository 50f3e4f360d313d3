pub mod Indexes
pub mod LaidOut
pub mod Laws
pub mod Referred
pub mod Sizes
