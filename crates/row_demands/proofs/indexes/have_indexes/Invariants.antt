use Rattle.std.proofs.Common.{◌<◌, ℕ}
use Rattle.metadata_tables.specs.Stream.{column_of, cell}
use Rattle.image_model.specs.Streams.{tables_of}
use Rattle.image_model.specs.Cells.{IsIndex}
use Rattle.row_demands.proofs.indexes.have_indexes.Given as goal

abbrev pub invariant-loop-number : goal.invariant-loop-number
invariant-loop-number l =
    (column : ℕ) → column < l.number → IsIndex l.image (column_of l.table column) (cell (tables_of l.image) l.table l.row column)
