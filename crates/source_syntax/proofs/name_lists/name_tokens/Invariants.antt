use Rattle.std.proofs.Common.{◌≡◌, length}
use Rattle.source_model.specs.Forest.{Forest, preorder}
use Rattle.source_syntax.specs.Namings.{names_in}
use Rattle.source_nodes.specs.Walk.{IsForest}
use Rattle.source_nodes.proofs.Collecting.{SoFar}
use Rattle.source_syntax.proofs.NamingLemmas.{Any}
use Rattle.source_syntax.proofs.name_lists.name_tokens.Given as goal

abbrev pub invariant-loop-node : goal.invariant-loop-node
invariant-loop-node l = record {
  forest : IsForest l.left;
  so_far : (f : Forest) → preorder f ≡ l.nodes → SoFar Any (names_in l.naming) (names_in l.naming f) l.left l.found;
}

abbrev pub decreases-loop-node : goal.decreases-loop-node
decreases-loop-node l = length l.left
