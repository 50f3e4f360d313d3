pub mod Overriders
