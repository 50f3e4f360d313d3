pub mod AllDeclared
pub mod Census
pub mod Passes
pub mod SourceFaults
