pub mod Chains
pub mod Names
pub mod Numbering
pub mod Table
pub mod Texts
