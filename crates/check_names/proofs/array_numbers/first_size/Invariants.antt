use Rattle.std.proofs.Common.{◌≡◌, length, map}
use Rattle.source_model.specs.TypeRules.{first_size}
use Rattle.source_nodes.specs.Dimensions.{bound_of}
use Rattle.check_names.proofs.array_numbers.first_size.Given as goal

abbrev pub invariant-loop-left : goal.invariant-loop-left
invariant-loop-left l = first_size (map bound_of l.left) ≡ first_size (map bound_of l.dimensions)

abbrev pub decreases-loop-left : goal.decreases-loop-left
decreases-loop-left l = length l.left
