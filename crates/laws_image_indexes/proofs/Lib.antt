pub mod EachLemmas
pub mod EntryLemmas
pub mod OwnedTables
pub mod PlainTables
pub mod ReferenceTables
pub mod TableLemmas
pub mod TokenLemmas
