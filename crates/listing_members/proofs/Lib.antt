mod Fields
mod Owners
mod Typars
mod Accessors
mod Properties
