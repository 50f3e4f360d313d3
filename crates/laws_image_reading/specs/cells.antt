pub mod NamedRows
pub mod OnCells
pub mod OnTables
