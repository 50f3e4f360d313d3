mod Integers
mod Strings
mod Constants
mod Attributes
mod Labels
