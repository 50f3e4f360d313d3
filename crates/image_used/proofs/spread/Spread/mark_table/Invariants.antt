use Rattle.std.proofs.Common.{◌≡◌}
use Rattle.image_used.specs.Spreading.{Spreads, MarkedIn}
use Rattle.image_used.proofs.spread.Spread.mark_table.Given as goal

abbrev pub invariant-loop-row : goal.invariant-loop-row
invariant-loop-row l = Spreads l.fn.self.marks l.fn.self.todo l.self.marks l.self.todo (MarkedIn l.named l.table l.row) × (l.self.seen ≡ l.fn.self.seen)
