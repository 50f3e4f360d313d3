use Rattle.std.proofs.Common.{take}
use Rattle.std.specs.List.{AllByRecursion}
use Rattle.laws_image_reading.specs.parts.Ranges.{HasFour}
use Rattle.laws_image_reading.proofs.ranges.externs_in_range.Given as goal

abbrev pub invariant-loop-extern_assembly : goal.invariant-loop-extern_assembly
invariant-loop-extern_assembly l = AllByRecursion HasFour (take l.extern_assembly-index l.externs)
