pub mod Firsts
pub mod Forests
pub mod Joined
pub mod Meanings
pub mod TokenOrder
