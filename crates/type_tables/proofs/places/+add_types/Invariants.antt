use Rattle.std.proofs.Common.{◌≡◌, take}
use Rattle.std.specs.List.{flat_map}
use Rattle.type_hierarchy.specs.Ancestors.{typedef_paths}
use Rattle.type_tables.specs.Indexing.{IsIndexed}
use Rattle.type_tables.specs.Placed.{IsGrown, placed}
use Rattle.type_tables.specs.Places.{row}
use Rattle.type_tables.proofs.places.+add_types.Given as goal

abbrev pub invariant-loop-index : goal.invariant-loop-index
invariant-loop-index l = record {
  names : l.into.names ≡ placed l.scope l.outer l.initial.into.names (flat_map typedef_paths (take l.index l.types));
  types : IsGrown l.scope l.outer l.member l.types (row l.initial.into) (row l.into);
  indexes : IsIndexed l.scope l.outer l.types l.initial.into l.into;
}
