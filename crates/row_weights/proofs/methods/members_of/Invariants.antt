use Rattle.row_weights.specs.Rows.{MethodTold, FieldTold}
use Rattle.row_weights.proofs.Filling.{AreTold}
use Rattle.row_weights.proofs.methods.members_of.Given as goal

abbrev pub invariant-loop-row : goal.invariant-loop-row
invariant-loop-row g l =
    AreTold l.given.image.now 0x0A (MethodTold l.given.image.now 0x0A) l.row l.weights.items × AreTold l.given.image.now 0x0A (FieldTold l.given.image.now 0x0A) l.row l.weights.items
