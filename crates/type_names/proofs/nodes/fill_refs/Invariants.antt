use Rattle.type_names.proofs.Filling.{RefsSoFar}
use Rattle.type_names.proofs.nodes.fill_refs.Given as goal

abbrev pub invariant-loop-row : goal.invariant-loop-row
invariant-loop-row l = RefsSoFar l.image l.row l.initial.nodes l.nodes
