use Rattle.std.proofs.Common.{drop}
use Rattle.image_members.proofs.DeclaringLemmas.{DeclaresTo}
use Rattle.image_members.proofs.declaring.declare_classes.Given as goal

abbrev pub invariant-loop-class : goal.invariant-loop-class
invariant-loop-class l = DeclaresTo l.initial.strings l.strings l.initial.rows l.rows l.classes (drop l.class-index l.classes)
