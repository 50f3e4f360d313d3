pub mod Answering
pub mod Collected
pub mod Loops
