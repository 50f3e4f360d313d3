use Rattle.std.proofs.Common.{◌≡◌}
use Rattle.image_used.specs.Spreading.{Spreads, CellsName}
use Rattle.image_used.proofs.spread.Spread.mark_cells.Given as goal

abbrev pub invariant-loop-number : goal.invariant-loop-number
invariant-loop-number l =
    Spreads l.fn.self.marks l.fn.self.todo l.self.marks l.self.todo (CellsName l.image l.table l.row l.number) × (l.self.seen ≡ l.fn.self.seen)
