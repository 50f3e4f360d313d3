pub mod Written
pub mod Paths
pub mod Owners
pub mod Locals
pub mod MemberOwners
pub mod Parents
