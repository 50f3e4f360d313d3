use Rattle.std.proofs.Common.{◌≡◌, length}
use Rattle.source_model.specs.Forest.{Forest, preorder}
use Rattle.source_nodes.specs.Walk.{IsForest}
use Rattle.check_members.proofs.MemberParts.{TokenLeft}
use Rattle.check_members.proofs.member_kinds.method_token.Given as goal

abbrev pub invariant-loop-x : goal.invariant-loop-x
invariant-loop-x l = record {
  forest : IsForest l.left;
  so_far : (f : Forest) → preorder f ≡ l.nodes → TokenLeft f l.left;
}

abbrev pub decreases-loop-x : goal.decreases-loop-x
decreases-loop-x l = length l.left
