pub mod MetadataLemmas
mod Transfer
mod OneOwners
mod OneNaming
mod OneFault
mod General
mod OnePath
mod OnePart
mod OneType
mod OneSize
mod OneReading
mod Members
mod Trees
mod Sizes
mod ReadTree
