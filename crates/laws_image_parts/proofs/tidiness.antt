pub mod ContentLemmas
pub mod FieldLemmas
pub mod ListLemmas
pub mod RowLemmas
pub mod UsedRows
pub mod UsedTables
