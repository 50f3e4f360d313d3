use Rattle.image_methods.proofs.Overriding.{AreSoFar}
use Rattle.image_methods.proofs.override_rows.overriders.Given as goal

abbrev pub invariant-loop-row : goal.invariant-loop-row
invariant-loop-row l = AreSoFar l.image l.bodies l.row
