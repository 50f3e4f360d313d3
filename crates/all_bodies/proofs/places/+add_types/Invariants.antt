use Rattle.std.proofs.Common.{◌≡◌, ◌++◌, take}
use Rattle.std.specs.List.{sum_by}
use Rattle.assembly_tree.specs.Weight.{typedef_weight}
use Rattle.all_bodies.specs.Places.{places_from}
use Rattle.all_bodies.proofs.places.+add_types.Given as goal

abbrev pub invariant-loop-k : goal.invariant-loop-k
invariant-loop-k l = l.into ≡ l.initial.into ++ places_from l.outer 0 (take l.k l.types)

abbrev pub decreases-add_types : goal.decreases-add_types
decreases-add_types l = sum_by typedef_weight l.types.now
