pub mod ClassRows
pub mod DataRows
