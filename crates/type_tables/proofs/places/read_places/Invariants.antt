use Rattle.type_tables.specs.Indexing.{AreIndexed}
use Rattle.type_hierarchy.specs.Scopes.{sources}
use Rattle.type_tables.specs.Places.{row}
use Rattle.type_tables.proofs.SoFar.{AreSoFar}
use Rattle.type_tables.proofs.places.read_places.Given as goal

abbrev pub invariant-loop-k : goal.invariant-loop-k
invariant-loop-k l = record {
  places : AreSoFar (sources l.image l.references) l.k (row l.into);
  indexes : AreIndexed l.image.types l.into;
}
