use Rattle.std.proofs.Common.{◌≡◌, length}
use Rattle.source_model.specs.Forest.{Forest, preorder}
use Rattle.source_model.specs.Source.{Source}
use Rattle.source_nodes.specs.Derived.{HasBodies}
use Rattle.source_nodes.specs.Walk.{IsForest}
use Rattle.source_syntax.proofs.MethodNames.{Named}
use Rattle.source_syntax.proofs.references.method_name.Given as goal

abbrev pub invariant-loop-x : goal.invariant-loop-x
invariant-loop-x l = record {
  forest : IsForest l.left;
  so_far : (s : Source) (f : Forest) → preorder f ≡ l.nodes → HasBodies s f → Named s f l.left;
}

abbrev pub decreases-loop-x : goal.decreases-loop-x
decreases-loop-x l = length l.left
