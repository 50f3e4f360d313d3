use Rattle.image_used.specs.Going.{Passed, OthersBelow}
use Rattle.image_used.proofs.spread.Spread.mark_declared.Given as goal

abbrev pub invariant-loop-table : goal.invariant-loop-table
invariant-loop-table l = Passed l.image l.fn.self.marks l.self.marks l.self.todo l.self.seen (OthersBelow l.image l.table)
