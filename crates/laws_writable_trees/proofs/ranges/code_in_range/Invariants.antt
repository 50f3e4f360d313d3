use Rattle.std.proofs.Common.{take}
use Rattle.std.specs.List.{AllByRecursion}
use Rattle.laws_writable_trees.specs.Ranges.{IsInRange}
use Rattle.laws_writable_trees.proofs.ranges.code_in_range.Given as goal

abbrev pub invariant-loop-instruction : goal.invariant-loop-instruction
invariant-loop-instruction l = AllByRecursion IsInRange (take l.instruction-index l.code)
