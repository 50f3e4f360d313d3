use Rattle.std.proofs.Common.{◌≡◌, ◌≤◌, length}
use Rattle.source_model.specs.Forest.{Forest, preorder}
use Rattle.source_model.specs.Nodes.{Around}
use Rattle.source_model.specs.Source.{Source}
use Rattle.source_flags.specs.InRange.{AllInRange}
use Rattle.source_nodes.specs.Walk.{IsForest}
use Rattle.lower_bodies.specs.BodyPlaces.{IsWithin}
use Rattle.lower_bodies.proofs.ClauseLemmas.{Pushed}
use Rattle.lower_bodies.proofs.clauses.+push_clauses.Given as goal

abbrev pub invariant-loop-x : goal.invariant-loop-x
invariant-loop-x l = record {
  forest : IsForest l.left;
  shorter : length l.left ≤ length l.nodes;
  so_far : (s : Source) (a : Around) (f t g : Forest) → IsWithin l.at s a f → preorder t ≡ l.tried → AllInRange s t → preorder g ≡ l.nodes → AllInRange s g
      → Pushed s a f t g l.initial.found l.left l.found;
}

abbrev pub decreases-loop-x : goal.decreases-loop-x
decreases-loop-x l = length l.left

abbrev pub decreases-push_clauses : goal.decreases-push_clauses
decreases-push_clauses l = length l.nodes.now
