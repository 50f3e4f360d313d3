use Rattle.std.proofs.Common.{◌≡◌, ◌-◌, take}
use Rattle.assembly_tree.specs.WellFormedTypes.{entries_in}
use Rattle.assembly_tree.proofs.formed.types.take_entries.Given as goal

abbrev pub invariant-loop-method : goal.invariant-loop-method
invariant-loop-method l = l.left ≡ l.initial.left - entries_in (take l.method-index l.methods)
