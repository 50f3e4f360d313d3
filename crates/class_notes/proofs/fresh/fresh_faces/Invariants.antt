use Rattle.std.proofs.Common.{take}
use Rattle.std.specs.Option.{option_copied}
use Rattle.class_notes.specs.Fresh.{AreFresh}
use Rattle.class_notes.proofs.fresh.fresh_faces.Given as goal

abbrev pub invariant-loop-face : goal.invariant-loop-face
invariant-loop-face l = AreFresh l.pairs (option_copied l.parent) l.opens (take l.face-index l.faces) l.fresh
