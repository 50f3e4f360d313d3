pub mod EachKind
pub mod Loops
pub mod Ties
pub mod Told
