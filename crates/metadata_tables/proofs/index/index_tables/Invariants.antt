use Rattle.metadata_tables.proofs.Places.{IsIndexedUpto}
use Rattle.metadata_tables.proofs.index.index_tables.Given as goal

abbrev pub invariant-loop-table : goal.invariant-loop-table
invariant-loop-table l = IsIndexedUpto l.stream l.table l.start l.indexes
