use Rattle.std.proofs.Common.{◌+◌, ◌≤◌, length}
use Rattle.check_visitor.proofs.CountLemmas.{counted}
use Rattle.source_syntax.proofs.Stepping.{Steps}
use Rattle.check_visitor.proofs.counts.count_each.Given as goal

abbrev pub invariant-loop-node : goal.invariant-loop-node
invariant-loop-node l = record {
  steps : Steps (counted l.production l.found) (counted l.production 0) l.nodes l.left;
  within : l.found + length l.left ≤ length l.nodes;
}

abbrev pub decreases-loop-node : goal.decreases-loop-node
decreases-loop-node l = length l.left
