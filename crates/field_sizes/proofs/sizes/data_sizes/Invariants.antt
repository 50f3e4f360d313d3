use Rattle.field_sizes.proofs.Measuring.{AreSoFar}
use Rattle.field_sizes.proofs.sizes.data_sizes.Given as goal

abbrev pub invariant-loop-row : goal.invariant-loop-row
invariant-loop-row l = AreSoFar l.image l.row l.sizes.items
