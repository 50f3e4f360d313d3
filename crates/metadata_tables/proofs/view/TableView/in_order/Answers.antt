use Rattle.std.proofs.Common.{◌≡◌, ◌<◌, ℕ, length, get_or, List}
use Rattle.metadata_tables.specs.Schema.{columns_of}
use Rattle.metadata_tables.specs.Order.{sort_columns}
use Rattle.metadata_tables.proofs.Sorting.{sort_within}
use Rattle.metadata_tables.proofs.view.TableView.in_order.Goals as goal

-- a column that a table is sorted by is one of its columns
column : (table : ℕ) (keys : List ℕ) (i : ℕ) → keys ≡ sort_columns table → i < length keys → get_or keys i 0 < length (columns_of table)
column table keys i e h = rw e (sort_within table i (rw e at h))

pub cell-above-requires-clause-column : goal.cell-above-requires-clause-column
cell-above-requires-clause-column c =
    column c.args.table c.sort_columns-column-items.result.now c.loop-column.column-index c.sort_columns-column-items.ensures c.loop-column-test.true

pub cell-here-requires-clause-column : goal.cell-here-requires-clause-column
cell-here-requires-clause-column c =
    column c.args.table c.sort_columns-column-items.result.now c.loop-column.column-index c.sort_columns-column-items.ensures c.loop-column-test.true
