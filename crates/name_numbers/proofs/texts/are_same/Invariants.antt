use Rattle.std.proofs.Common.{◌-◌, length}
use Rattle.name_numbers.proofs.Fronts.{AreRests}
use Rattle.name_numbers.proofs.texts.are_same.Given as goal

abbrev pub decreases-loop-one : goal.decreases-loop-one
decreases-loop-one l = length l.heap - l.one

abbrev pub invariant-loop-one : goal.invariant-loop-one
invariant-loop-one l = AreRests l.heap l.fn.one l.fn.other l.one l.other
