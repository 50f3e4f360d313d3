use Rattle.std.proofs.Common.{◌≡◌, ◌-◌, take}
use Rattle.std.specs.List.{sum_by}
use Rattle.assembly_tree.specs.Weight.{id_weight}
use Rattle.assembly_tree.proofs.weighing.terms.TypeNameWeighs.charge.Given as goal

abbrev pub invariant-loop-id : goal.invariant-loop-id
invariant-loop-id l = l.left ≡ l.initial.left - sum_by id_weight (take l.id-index l.id-items)
