pub mod Classes
pub mod Filled
pub mod Laws
pub mod Missing
pub mod Slots
