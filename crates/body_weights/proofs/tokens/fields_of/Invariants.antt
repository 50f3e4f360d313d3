use Rattle.row_weights.specs.Rows.{FieldTold}
use Rattle.row_weights.proofs.Filling.{AreTold}
use Rattle.body_weights.proofs.tokens.fields_of.Given as goal

abbrev pub invariant-loop-row : goal.invariant-loop-row
invariant-loop-row g l = AreTold l.given.image.now 0x04 (FieldTold l.given.image.now 0x04) l.row l.weights.items
