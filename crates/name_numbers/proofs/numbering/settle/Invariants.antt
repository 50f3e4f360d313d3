use Rattle.std.proofs.Common.{◌-◌}
use Rattle.name_numbers.proofs.Passes.{AreSoFar}
use Rattle.name_numbers.proofs.numbering.settle.Given as goal

abbrev pub decreases-loop-most : goal.decreases-loop-most
decreases-loop-most l = 100 - l.most

abbrev pub invariant-loop-most : goal.invariant-loop-most
invariant-loop-most l = AreSoFar l.texts l.nodes l.last l.from l.to l.most l.fn.numbering l.numbering
