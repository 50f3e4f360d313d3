use Rattle.std.proofs.Common.{◌≡◌, ◌+◌, ◌≤◌, length}
use Rattle.source_model.specs.Forest.{Forest, preorder}
use Rattle.source_nodes.specs.Walk.{IsForest}
use Rattle.source_syntax.proofs.SignatureLemmas.{Passed}
use Rattle.source_syntax.proofs.signatures.before_ellipsis.Given as goal

abbrev pub invariant-loop-x : goal.invariant-loop-x
invariant-loop-x l = record {
  within : l.before + length l.left ≤ length l.nodes;
  forest : IsForest l.left;
  so_far : (f : Forest) → preorder f ≡ l.nodes → Passed f l.left l.before;
}

abbrev pub decreases-loop-x : goal.decreases-loop-x
decreases-loop-x l = length l.left
