use Rattle.std.proofs.Common.{take}
use Rattle.std.specs.List.{AllByRecursion}
use Rattle.image_members.specs.Places.{lent}
use Rattle.laws_writable_trees.specs.Ranges.{IsMethodInRange}
use Rattle.laws_writable_trees.proofs.ranges.methods_in_range.Given as goal

abbrev pub invariant-loop-method : goal.invariant-loop-method
invariant-loop-method l = AllByRecursion IsMethodInRange (lent (take l.method-index l.methods))
