use Rattle.std.proofs.Common.{◌≡◌, length}
use Rattle.source_model.specs.Forest.{Forest, preorder}
use Rattle.source_model.specs.Nodes.{Around}
use Rattle.source_model.specs.Source.{Source}
use Rattle.source_syntax.specs.Places.{IsAt, IsReadable}
use Rattle.source_nodes.specs.Walk.{IsForest}
use Rattle.source_syntax.proofs.OwnerLemmas.{Owners}
use Rattle.source_syntax.proofs.place.Place.owners_in.Given as goal

abbrev pub invariant-loop-x : goal.invariant-loop-x
invariant-loop-x l = record {
  forest : IsForest l.left;
  so_far : (s : Source) (a : Around) → IsAt l.self s a → (f : Forest) → preorder f ≡ l.nodes → IsReadable s f → Owners s a f l.left l.owners;
}

abbrev pub decreases-loop-x : goal.decreases-loop-x
decreases-loop-x l = length l.left
