use Rattle.body_weights.specs.Bodies.{BodyAtTold, AreSeen}
use Rattle.row_weights.proofs.Filling.{AreTold}
use Rattle.body_weights.proofs.bodies.bodies_of.Given as goal

abbrev pub invariant-loop-row : goal.invariant-loop-row
invariant-loop-row g l = AreTold l.image 0x06 (BodyAtTold l.image) l.row l.weights.items × AreSeen l.image l.row l.seen
