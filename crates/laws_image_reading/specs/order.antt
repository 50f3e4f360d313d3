pub mod OnRows
pub mod ShortNames
