use Rattle.std.proofs.Common.{map, length}
use Rattle.source_model.specs.Source.{Source}
use Rattle.source_nodes.specs.Dimensions.{AreInRange, bound_of}
use Rattle.source_nodes.proofs.BoundLemmas.{Trimmed}
use Rattle.source_nodes.proofs.bounds.up_to_last_lower.Given as goal

abbrev pub invariant-loop-last : goal.invariant-loop-last
invariant-loop-last l = (s : Source) → AreInRange s (map bound_of l.dimensions) → Trimmed s l.dimensions l.left

abbrev pub decreases-loop-last : goal.decreases-loop-last
decreases-loop-last l = length l.left
