use Rattle.std.proofs.Common.{◌≡◌, length}
use Rattle.source_model.specs.Forest.{Forest, preorder}
use Rattle.source_model.specs.Source.{Source}
use Rattle.source_nodes.specs.Derived.{HasBodies}
use Rattle.source_nodes.specs.Readers.{Reads}
use Rattle.source_nodes.specs.Walk.{IsForest}
use Rattle.lower_manifest.proofs.TextLemmas.{Joined}
use Rattle.lower_manifest.proofs.texts.with_pieces.Given as goal

abbrev pub invariant-loop-x : goal.invariant-loop-x
invariant-loop-x l = record {
  forest : IsForest l.left;
  so_far : (s : Source) (f : Forest) → Reads l.reader s → preorder f ≡ l.nodes → HasBodies s f → Joined s l.initial.found f l.left l.found;
}

abbrev pub decreases-loop-x : goal.decreases-loop-x
decreases-loop-x l = length l.left
