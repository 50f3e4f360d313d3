use Rattle.std.proofs.Common.{◌≡◌, take}
use Rattle.std.specs.List.{sum_by}
use Rattle.assembly_tree.specs.Weight.{typedef_weight}
use Rattle.all_bodies.specs.Counts.{bodies_in}
use Rattle.all_bodies.proofs.counting.+bodies_among.Given as goal

abbrev pub invariant-loop-of : goal.invariant-loop-of
invariant-loop-of l = l.count ≡ sum_by bodies_in (take l.of-index l.types)

abbrev pub decreases-bodies_among : goal.decreases-bodies_among
decreases-bodies_among l = sum_by typedef_weight l.types.now
