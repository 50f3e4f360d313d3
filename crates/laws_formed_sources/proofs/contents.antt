pub mod Contents
pub mod Leads
pub mod Lengths
pub mod Sizes
