use Rattle.std.proofs.Common.{◌≡◌, [], length}
use Rattle.source_model.specs.Forest.{Forest, preorder}
use Rattle.source_model.specs.Source.{Source}
use Rattle.source_nodes.specs.Derived.{FitsBody, HasBodies}
use Rattle.source_nodes.specs.Walk.{IsForest}
use Rattle.source_nodes.proofs.Collecting.{SoFar}
use Rattle.source_syntax.proofs.TypeNames.{name_parts}
use Rattle.source_syntax.proofs.place.Place.type_name.Given as goal

abbrev pub invariant-loop-x : goal.invariant-loop-x
invariant-loop-x l = record {
  forest : IsForest l.left;
  so_far : (s : Source) (f : Forest) → preorder f ≡ l.nodes → HasBodies s f → SoFar (FitsBody s) name_parts (name_parts f) l.left [];
}

abbrev pub decreases-loop-x : goal.decreases-loop-x
decreases-loop-x l = length l.left
