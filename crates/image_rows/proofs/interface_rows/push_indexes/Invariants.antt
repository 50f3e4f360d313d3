use Rattle.std.proofs.Common.{drop}
use Rattle.image_rows.proofs.InterfaceLemmas.{RowsTo}
use Rattle.image_rows.proofs.interface_rows.push_indexes.Given as goal

abbrev pub invariant-loop-index : goal.invariant-loop-index
invariant-loop-index l = RowsTo l.row l.initial.rows l.rows l.indexes (drop l.index-index l.indexes)
