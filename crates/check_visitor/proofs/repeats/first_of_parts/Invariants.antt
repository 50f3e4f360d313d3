use Rattle.std.proofs.Common.{length, ◌≤◌}
use Rattle.std.specs.Prelude.{None}
use Rattle.check_visitor.proofs.RepeatLemmas.{past}
use Rattle.source_syntax.proofs.Stepping.{Steps}
use Rattle.check_visitor.proofs.repeats.first_of_parts.Given as goal

abbrev pub invariant-loop-node : goal.invariant-loop-node
invariant-loop-node l = record {
  steps : Steps (past l.pick l.production l.more l.found) (past l.pick l.production l.skip None) l.nodes l.left;
  once : l.more ≤ 1;
}

abbrev pub decreases-loop-node : goal.decreases-loop-node
decreases-loop-node l = length l.left
