use Rattle.std.proofs.Common.{◌≡◌, length, map}
use Rattle.source_model.specs.TypeRules.{size_after_gap}
use Rattle.source_nodes.specs.Dimensions.{bound_of}
use Rattle.check_names.proofs.array_numbers.size_after_gap.Given as goal

abbrev pub invariant-loop-left : goal.invariant-loop-left
invariant-loop-left l = size_after_gap (map bound_of l.left) ≡ size_after_gap (map bound_of l.dimensions)

abbrev pub decreases-loop-left : goal.decreases-loop-left
decreases-loop-left l = length l.left
