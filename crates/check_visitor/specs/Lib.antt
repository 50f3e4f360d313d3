pub mod NumberTests
pub mod Picks
pub mod Surroundings
