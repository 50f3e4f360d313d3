use Rattle.std.proofs.Common.{◌≡◌, take}
use Rattle.std.specs.List.{flat_map}
use Rattle.listing_leaves.specs.Texts.{escaped_unit}
use Rattle.print_leaves.specs.Page.{added}
use Rattle.print_leaves.proofs.paper.Paper.add_units.Given as goal

abbrev pub invariant-loop-unit : goal.invariant-loop-unit
invariant-loop-unit l = l.self ≡ added l.initial.self (flat_map escaped_unit (take l.unit-index l.units))
