use Rattle.std.proofs.Common.{◌≡◌, take}
use Rattle.std.specs.List.{flat_map}
use Rattle.print_leaves.specs.Page.{added}
use Rattle.print_leaves.specs.Spaced.{spaced_unit}
use Rattle.print_leaves.proofs.paper.Paper.more_units.Given as goal

abbrev pub invariant-loop-unit : goal.invariant-loop-unit
invariant-loop-unit l = l.self ≡ added l.initial.self (flat_map spaced_unit (take l.unit-index l.units))
