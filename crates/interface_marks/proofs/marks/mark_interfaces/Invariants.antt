use Rattle.interface_marks.specs.Marking.{AreMarked, AreLast}
use Rattle.interface_marks.proofs.marks.mark_interfaces.Given as goal

abbrev pub invariant-loop-row : goal.invariant-loop-row
invariant-loop-row l = AreMarked l.image l.numbers l.row l.marks × AreLast l.image l.numbers l.row l.last
