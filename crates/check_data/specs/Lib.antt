pub mod DeclaredSizes
pub mod FieldFaults
pub mod TypeSizes
