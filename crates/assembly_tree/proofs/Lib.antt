pub mod Branches
pub mod Charging
pub mod FormedFacts
pub mod FormedTerms
pub mod FormedTypes
pub mod Prefixes
pub mod TextLists
pub mod TypeWeights
