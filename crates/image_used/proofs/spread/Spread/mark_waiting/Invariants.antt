use Rattle.std.proofs.Common.{◌+◌, length}
use Rattle.method_states.specs.Marks.{left_in}
use Rattle.image_used.specs.Going.{Passed, NoRows}
use Rattle.image_used.proofs.spread.Spread.mark_waiting.Given as goal

abbrev pub invariant-loop-at : goal.invariant-loop-at
invariant-loop-at l = Passed l.image l.fn.self.marks l.self.marks l.self.todo l.self.seen NoRows

abbrev pub decreases-loop-at : goal.decreases-loop-at
decreases-loop-at l = left_in l.self.marks + length l.self.todo
