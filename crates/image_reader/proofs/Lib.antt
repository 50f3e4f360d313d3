pub mod Outcomes
pub mod Trees
