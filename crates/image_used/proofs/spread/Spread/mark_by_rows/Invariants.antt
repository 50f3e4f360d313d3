use Rattle.image_used.specs.Going.{Passed, RowsTo}
use Rattle.image_used.proofs.spread.Spread.mark_by_rows.Given as goal

abbrev pub invariant-loop-row : goal.invariant-loop-row
invariant-loop-row l = Passed l.image l.fn.self.marks l.self.marks l.self.todo l.self.seen (RowsTo l.table l.row)
