use Rattle.std.proofs.Common.{◌≡◌, drop}
use Rattle.std.specs.List.{flat_map}
use Rattle.source_model.specs.BodyFaults.{all_methods}
use Rattle.source_model.specs.Source.{Source}
use Rattle.source_nodes.specs.Least.{least, sooner}
use Rattle.source_nodes.specs.Readers.{Reads}
use Rattle.source_syntax.proofs.methods.first_in_methods.Given as goal

abbrev pub invariant-loop-method : goal.invariant-loop-method
invariant-loop-method g l = (s : Source) → Reads l.reader s
    → sooner l.found (least (flat_map (g.R.MethodRule.broken l.rule s) (drop l.method-index (all_methods s))))
    ≡ least (flat_map (g.R.MethodRule.broken l.rule s) (all_methods s))
