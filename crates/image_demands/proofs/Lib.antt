pub mod MethodBodies
pub mod Steps
pub mod Whole
