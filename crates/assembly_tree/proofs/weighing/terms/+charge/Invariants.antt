use Rattle.std.proofs.Common.{◌≡◌, ◌-◌, take}
use Rattle.std.specs.List.{sum_by}
use Rattle.assembly_tree.specs.Weight.{type_weight}
use Rattle.assembly_tree.proofs.weighing.terms.+charge.Given as goal

abbrev pub invariant-charge_types-loop-of : goal.invariant-charge_types-loop-of
invariant-charge_types-loop-of l = l.left ≡ l.initial.left - sum_by type_weight (take l.of-index l.types)
