use Rattle.std.proofs.Common.{◌≡◌, length}
use Rattle.source_model.specs.Forest.{Forest, preorder}
use Rattle.source_nodes.specs.Walk.{IsForest}
use Rattle.check_members.proofs.LoneLemmas.{LeftLone}
use Rattle.check_members.proofs.lone_members.has_two.Given as goal

abbrev pub invariant-loop-node : goal.invariant-loop-node
invariant-loop-node l = record {
  forest : IsForest l.left;
  so_far : (f : Forest) → preorder f ≡ l.nodes → LeftLone l.level f l.left l.met;
}

abbrev pub decreases-loop-node : goal.decreases-loop-node
decreases-loop-node l = length l.left
