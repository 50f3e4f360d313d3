use Rattle.std.proofs.Common.{◌≡◌, ◌-◌, take}
use Rattle.std.specs.List.{sum_by}
use Rattle.assembly_tree.specs.WellFormedTypes.{entries_of}
use Rattle.assembly_tree.proofs.formed.types.+take_entries_of.Given as goal

abbrev pub invariant-loop-of : goal.invariant-loop-of
invariant-loop-of l = l.left ≡ l.initial.left - sum_by entries_of (take l.of-index l.types)
