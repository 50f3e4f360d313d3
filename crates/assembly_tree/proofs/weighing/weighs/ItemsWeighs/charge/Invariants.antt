use Rattle.std.proofs.Common.{◌≡◌, ◌-◌, take}
use Rattle.std.specs.List.{sum_by}
use Rattle.assembly_tree.proofs.weighing.weighs.ItemsWeighs.charge.Given as goal

abbrev pub invariant-loop-item : goal.invariant-loop-item
invariant-loop-item g l = l.left ≡ l.initial.left - sum_by g.T.Weighs.weight (take l.item-index l.item-items)
