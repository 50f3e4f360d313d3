use Rattle.row_weights.specs.Rows.{MethodTold}
use Rattle.row_weights.proofs.Filling.{AreTold}
use Rattle.row_weights.proofs.methods.instances_of.Given as goal

abbrev pub invariant-loop-row : goal.invariant-loop-row
invariant-loop-row g l = AreTold l.given.image.now 0x2B (MethodTold l.given.image.now 0x2B) l.row l.weights.items
