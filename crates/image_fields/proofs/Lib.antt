pub mod RowsOfFields
pub mod StoredData
