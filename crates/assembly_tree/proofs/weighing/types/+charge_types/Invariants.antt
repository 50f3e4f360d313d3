use Rattle.std.proofs.Common.{◌≡◌, ◌-◌, ◌||◌, drop, take}
use Rattle.std.specs.List.{flat_map, sum_by}
use Rattle.assembly_tree.specs.Loading.{has_text}
use Rattle.assembly_tree.specs.Room.{typedef_texts}
use Rattle.assembly_tree.specs.Weight.{typedef_weight}
use Rattle.assembly_tree.proofs.weighing.types.+charge_types.Given as goal

abbrev pub invariant-loop-of : goal.invariant-loop-of
invariant-loop-of l =
    (l.left ≡ l.initial.left - sum_by typedef_weight (take l.of-index l.types))
    × ((l.initial.loads || has_text (flat_map typedef_texts l.types)) ≡ (l.loads || has_text (flat_map typedef_texts (drop l.of-index l.types))))
