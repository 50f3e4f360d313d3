use Rattle.std.proofs.Common.{length}
use Rattle.source_syntax.proofs.Stepping.{Steps}
use Rattle.lower_bodies.proofs.RangeNames.{asked}
use Rattle.lower_bodies.proofs.clause_ranges.stands.Given as goal

abbrev pub invariant-loop-node : goal.invariant-loop-node
invariant-loop-node l = Steps (asked l.production) (asked l.production) l.nodes l.left

abbrev pub decreases-loop-node : goal.decreases-loop-node
decreases-loop-node l = length l.left
