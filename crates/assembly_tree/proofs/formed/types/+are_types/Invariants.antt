use Rattle.std.proofs.Common.{◌≡◌, ◌-◌, true, take}
use Rattle.std.specs.List.{list_all}
use Rattle.assembly_tree.proofs.FormedTypes.{is_fine}
use Rattle.assembly_tree.proofs.formed.types.+are_types.Given as goal

abbrev pub decreases-are_types : goal.decreases-are_types
decreases-are_types l = l.levels

abbrev pub invariant-loop-of : goal.invariant-loop-of
invariant-loop-of l = list_all (is_fine l.a l.top (l.levels - 1)) (take l.of-index l.types) ≡ true
