use Rattle.std.proofs.Common.{◌≡◌, ◌≤◌, ◌*◌, ◌+◌, [], length}
use Rattle.source_model.specs.Forest.{Forest, preorder}
use Rattle.source_model.specs.Nodes.{Around}
use Rattle.source_model.specs.Source.{Source}
use Rattle.source_model.specs.Types.{suffixed}
use Rattle.source_syntax.specs.Places.{IsAt, IsReadable}
use Rattle.source_nodes.specs.Walk.{IsForest}
use Rattle.source_syntax.proofs.TypeWalks.{Types, Wraps, Owned}
use Rattle.source_syntax.proofs.place.Place.+types.Given as goal

abbrev pub decreases-types_in : goal.decreases-types_in
decreases-types_in l = 3 * length l.nodes.now

abbrev pub decreases-type_of : goal.decreases-type_of
decreases-type_of l = 3 * length l.nodes.now

abbrev pub decreases-suffixed : goal.decreases-suffixed
decreases-suffixed l = 3 * length l.nodes.now

abbrev pub decreases-first_type : goal.decreases-first_type
decreases-first_type l = 3 * length l.nodes.now

abbrev pub decreases-first_owner : goal.decreases-first_owner
decreases-first_owner l = 3 * length l.nodes.now

abbrev pub decreases-modified : goal.decreases-modified
decreases-modified l = 3 * length l.nodes.now + 1

abbrev pub decreases-with_suffix : goal.decreases-with_suffix
decreases-with_suffix l = 3 * length l.nodes.now + 2

abbrev pub invariant-types_in-loop-x : goal.invariant-types_in-loop-x
invariant-types_in-loop-x l = record {
  within : length l.left ≤ length l.nodes;
  forest : IsForest l.left;
  so_far : (s : Source) (a : Around) → IsAt l.self s a → (f : Forest) → preorder f ≡ l.nodes → IsReadable s f → Types s a f l.left l.types;
}

abbrev pub decreases-types_in-loop-x : goal.decreases-types_in-loop-x
decreases-types_in-loop-x l = length l.left

abbrev pub invariant-suffixed-loop-x : goal.invariant-suffixed-loop-x
invariant-suffixed-loop-x l = record {
  within : length l.left ≤ length l.nodes;
  forest : IsForest l.left;
  so_far : (s : Source) (a : Around) → IsAt l.self s a → (f : Forest) → preorder f ≡ l.nodes → IsReadable s f
      → Wraps s a (suffixed s a f l.fn.base) l.left l.of;
}

abbrev pub decreases-suffixed-loop-x : goal.decreases-suffixed-loop-x
decreases-suffixed-loop-x l = length l.left

abbrev pub invariant-first_type-loop-x : goal.invariant-first_type-loop-x
invariant-first_type-loop-x l = record {
  within : length l.left ≤ length l.nodes;
  forest : IsForest l.left;
  so_far : (s : Source) (a : Around) (f : Forest) → preorder f ≡ l.nodes → IsReadable s f → Types s a f l.left [];
}

abbrev pub decreases-first_type-loop-x : goal.decreases-first_type-loop-x
decreases-first_type-loop-x l = length l.left

abbrev pub invariant-first_owner-loop-x : goal.invariant-first_owner-loop-x
invariant-first_owner-loop-x l = record {
  within : length l.left ≤ length l.nodes;
  forest : IsForest l.left;
  so_far : (s : Source) (a : Around) (f : Forest) → preorder f ≡ l.nodes → IsReadable s f → Owned s a f l.left;
}

abbrev pub decreases-first_owner-loop-x : goal.decreases-first_owner-loop-x
decreases-first_owner-loop-x l = length l.left
