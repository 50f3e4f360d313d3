pub mod Repeats
mod Turned
mod Members
