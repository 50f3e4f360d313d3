use Rattle.type_tables.specs.Walks.{FallsBefore}
use Rattle.type_tables.proofs.cyclic.first_level.Given as goal

abbrev pub invariant-loop-i : goal.invariant-loop-i
invariant-loop-i l = FallsBefore l.steps l.numbers l.i
