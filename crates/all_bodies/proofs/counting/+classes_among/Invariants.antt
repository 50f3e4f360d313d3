use Rattle.std.proofs.Common.{◌≡◌, take}
use Rattle.std.specs.List.{sum_by}
use Rattle.assembly_tree.specs.Weight.{typedef_weight}
use Rattle.assembly_tree.specs.Nesting.{types_in}
use Rattle.all_bodies.proofs.counting.+classes_among.Given as goal

abbrev pub invariant-loop-of : goal.invariant-loop-of
invariant-loop-of l = l.count ≡ sum_by types_in (take l.of-index l.types)

abbrev pub decreases-classes_among : goal.decreases-classes_among
decreases-classes_among l = sum_by typedef_weight l.types.now
