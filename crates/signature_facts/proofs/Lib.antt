pub mod Loops
pub mod Sizes
pub mod Steps
pub mod Told
pub mod WholeTold
