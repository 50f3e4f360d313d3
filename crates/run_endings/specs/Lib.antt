pub mod Ends
pub mod Held
pub mod Reads
pub mod Runs
pub mod Texts
