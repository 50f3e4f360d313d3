pub mod Chosen
pub mod Customs
pub mod Externs
pub mod Laws
pub mod ManifestParts
pub mod Runs
pub mod Settings
pub mod Texts
