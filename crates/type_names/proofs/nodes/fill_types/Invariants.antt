use Rattle.type_names.proofs.Filling.{TypesSoFar}
use Rattle.type_names.proofs.nodes.fill_types.Given as goal

abbrev pub invariant-loop-row : goal.invariant-loop-row
invariant-loop-row l = TypesSoFar l.image l.row l.initial.nodes l.nodes
