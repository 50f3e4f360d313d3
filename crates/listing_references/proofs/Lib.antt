mod Searched
mod Fields
mod Arguments
mod Heads
mod Methods
