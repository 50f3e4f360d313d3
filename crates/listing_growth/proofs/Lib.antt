pub mod Rows
mod Types
mod References
mod Values
mod Flags
mod Members
mod Formed
mod Accessors
mod Opcodes
mod Bodies
mod Methods
mod Classes
mod Manifests
mod Canon
