use Rattle.std.proofs.Common.{◌≡◌, take}
use Rattle.std.specs.List.{sum_by}
use Rattle.assembly_tree.specs.Weight.{typedef_weight}
use Rattle.all_bodies.specs.Counts.{instructions_in}
use Rattle.all_bodies.proofs.counting.+instructions_among.Given as goal

abbrev pub invariant-loop-of : goal.invariant-loop-of
invariant-loop-of l = l.count ≡ sum_by instructions_in (take l.of-index l.types)

abbrev pub decreases-instructions_among : goal.decreases-instructions_among
decreases-instructions_among l = sum_by typedef_weight l.types.now
