pub mod Distinct
pub mod Entries
pub mod Fields
pub mod InUse
pub mod Once
