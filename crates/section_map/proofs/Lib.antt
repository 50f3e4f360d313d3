pub mod Headers
pub mod Firsts
pub mod Merging
pub mod Reaching
pub mod Reading
pub mod Halves
