pub mod Told
pub mod Readying
pub mod Truth
pub mod Uses
