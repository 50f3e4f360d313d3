mod CalledBodies
mod CalledNames
mod CalledTerms
mod CalledTypeNames
pub mod CalledTypes
mod FormedNested
mod FormedParts
mod FormedTerms
mod FormedTypes
mod Fusion
mod Interfaces
mod Seeing
mod Ties
