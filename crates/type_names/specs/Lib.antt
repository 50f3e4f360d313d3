pub mod Forest
pub mod Numbers
