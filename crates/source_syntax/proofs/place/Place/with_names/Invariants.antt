use Rattle.std.proofs.Common.{◌≡◌, ◌++◌, length}
use Rattle.source_model.specs.Forest.{Forest, preorder}
use Rattle.source_model.specs.Nodes.{Around}
use Rattle.source_model.specs.Source.{Source}
use Rattle.source_nodes.specs.Derived.{HasBodies}
use Rattle.source_syntax.specs.Places.{IsAt}
use Rattle.source_nodes.specs.Walk.{IsForest}
use Rattle.source_syntax.proofs.PathLemmas.{Names}
use Rattle.source_syntax.proofs.ScopeLemmas.{later_ids}
use Rattle.source_syntax.proofs.place.Place.with_names.Given as goal

abbrev pub invariant-loop-x : goal.invariant-loop-x
invariant-loop-x l = record {
  forest : IsForest l.left;
  so_far : (s : Source) (a : Around) → IsAt l.self s a → (f : Forest) → preorder f ≡ l.nodes → HasBodies s f →
      Names s (l.fn.path ++ later_ids s f) l.left l.longer;
}

abbrev pub decreases-loop-x : goal.decreases-loop-x
decreases-loop-x l = length l.left
