use Rattle.type_hierarchy.specs.Scopes.{sources}
use Rattle.type_tables.specs.Places.{row}
use Rattle.type_tables.proofs.ValueLemmas.{AreFound}
use Rattle.type_tables.proofs.filling.value_types.Given as goal

abbrev pub invariant-loop-k : goal.invariant-loop-k
invariant-loop-k l = AreFound (sources l.image l.references) (row l.places) l.k l.names
