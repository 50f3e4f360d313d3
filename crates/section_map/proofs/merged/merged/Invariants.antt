use Rattle.std.proofs.Common.{◌+◌, ◌-◌, length}
use Rattle.section_map.specs.Steps.{AreMerged}
use Rattle.section_map.proofs.merged.merged.Given as goal

abbrev pub invariant-loop-i : goal.invariant-loop-i
invariant-loop-i l = AreMerged l.left l.i l.right l.j l.steps

abbrev pub decreases-loop-i : goal.decreases-loop-i
decreases-loop-i l = (length l.left - l.i) + (length l.right - l.j)
