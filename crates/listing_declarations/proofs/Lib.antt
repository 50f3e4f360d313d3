pub mod Elsewhere
mod Rows
mod Tests
mod Externs
mod Manifests
mod Globals
