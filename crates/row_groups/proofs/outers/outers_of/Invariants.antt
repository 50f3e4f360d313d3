use Rattle.row_groups.proofs.Encloses.{AreSoFar}
use Rattle.row_groups.proofs.outers.outers_of.Given as goal

abbrev pub invariant-loop-row : goal.invariant-loop-row
invariant-loop-row l = AreSoFar l.image l.row l.outers.items
