use Rattle.std.proofs.Common.{◌≡◌, length}
use Rattle.std.specs.Prelude.{None}
use Rattle.source_model.specs.Source.{Source}
use Rattle.source_nodes.specs.Readers.{Reads}
use Rattle.check_names.proofs.ArrayLemmas.{bounds_after}
use Rattle.check_names.proofs.array_numbers.bound_number.Given as goal

abbrev pub invariant-loop-dimension : goal.invariant-loop-dimension
invariant-loop-dimension l = (s : Source) → Reads l.reader s → bounds_after s l.found l.left ≡ bounds_after s None l.dimensions

abbrev pub decreases-loop-dimension : goal.decreases-loop-dimension
decreases-loop-dimension l = length l.left
