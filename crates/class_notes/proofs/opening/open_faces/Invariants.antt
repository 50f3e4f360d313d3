use Rattle.std.proofs.Common.{take}
use Rattle.class_notes.proofs.OpeningLemmas.{FacesSoFar}
use Rattle.class_notes.proofs.opening.open_faces.Given as goal

abbrev pub invariant-loop-face : goal.invariant-loop-face
invariant-loop-face l = FacesSoFar l.a l.initial.w l.w l.at (take l.face-index l.faces) l.initial.opens l.opens
