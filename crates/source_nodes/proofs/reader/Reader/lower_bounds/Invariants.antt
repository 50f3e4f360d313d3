use Rattle.std.proofs.Common.{map, length}
use Rattle.source_model.specs.Shapes.{lower_bounds}
use Rattle.source_model.specs.Source.{Source}
use Rattle.source_nodes.specs.Dimensions.{AreInRange, bound_of}
use Rattle.source_nodes.specs.Readers.{Reads}
use Rattle.source_nodes.proofs.BoundLemmas.{Lowered}
use Rattle.source_nodes.proofs.reader.Reader.lower_bounds.Given as goal

abbrev pub invariant-loop-left : goal.invariant-loop-left
invariant-loop-left l =
    (s : Source) → Reads l.self s → AreInRange s (map bound_of l.fn.dimensions) → Lowered s (lower_bounds s (map bound_of l.fn.dimensions)) l.left l.found

abbrev pub decreases-loop-left : goal.decreases-loop-left
decreases-loop-left l = length l.left
