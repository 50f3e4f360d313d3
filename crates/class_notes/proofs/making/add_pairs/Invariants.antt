use Rattle.std.proofs.Common.{take}
use Rattle.class_notes.specs.Making.{AddsPairs}
use Rattle.class_notes.proofs.making.add_pairs.Given as goal

abbrev pub invariant-loop-face : goal.invariant-loop-face
invariant-loop-face l = AddsPairs l.key (take l.face-index l.faces) l.initial.pairs l.pairs
