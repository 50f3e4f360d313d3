pub mod Told
pub mod Numbered
pub mod Narrow
pub mod Telling
pub mod Steps
pub mod Whole
pub mod Comparing
