use Rattle.name_numbers.specs.Numbering.{Visits}
use Rattle.name_numbers.proofs.numbering.pass.Given as goal

abbrev pub invariant-loop-k : goal.invariant-loop-k
invariant-loop-k l = Visits l.texts l.nodes l.last l.from l.k l.fn.numbering l.numbering l.changed
