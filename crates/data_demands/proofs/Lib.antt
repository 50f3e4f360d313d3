pub mod Calling
pub mod Knowing
pub mod Placing
pub mod Sizing
