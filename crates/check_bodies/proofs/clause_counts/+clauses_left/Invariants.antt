use Rattle.std.proofs.Common.{length, ◌≤◌}
use Rattle.check_bodies.proofs.ClauseCountLemmas.{left_of}
use Rattle.source_syntax.proofs.Stepping.{Steps}
use Rattle.check_bodies.proofs.clause_counts.+clauses_left.Given as goal

abbrev pub decreases-clauses_left : goal.decreases-clauses_left
decreases-clauses_left l = length l.nodes.now

abbrev pub invariant-loop-node : goal.invariant-loop-node
invariant-loop-node l = record {
  shorter : length l.left ≤ length l.nodes;
  steps : Steps (left_of l.more) (left_of l.most) l.nodes l.left;
}

abbrev pub decreases-loop-node : goal.decreases-loop-node
decreases-loop-node l = length l.left
