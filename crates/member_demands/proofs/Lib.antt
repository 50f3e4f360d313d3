pub mod Based
pub mod ConstantCases
pub mod Ordered
pub mod Owned
pub mod ValueParts
pub mod Valued
