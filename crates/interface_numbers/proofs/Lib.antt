pub mod Knowing
pub mod Likening
pub mod Numbering
pub mod Placing
