use Rattle.std.proofs.Common.{◌-◌}
use Rattle.metadata_tables.specs.Stream.{cell}
use Rattle.metadata_tables.specs.Order.{IsInOrder}
use Rattle.metadata_tables.proofs.Sorting.{IsRestInOrder}
use Rattle.metadata_tables.proofs.view.TableView.in_order.Given as goal

abbrev pub invariant-loop-column : goal.invariant-loop-column
invariant-loop-column l =
    (IsRestInOrder (cell l.self l.table (l.row - 1)) (cell l.self l.table l.row) l.column-items l.column-index → IsInOrder l.self l.table l.row)
    × (IsInOrder l.self l.table l.row → IsRestInOrder (cell l.self l.table (l.row - 1)) (cell l.self l.table l.row) l.column-items l.column-index)
