use Rattle.std.proofs.Common.{◌≡◌, length}
use Rattle.type_tables.specs.Building.{AreEntries, AreValues}
use Rattle.type_tables.specs.Members.{IsScopes}
use Rattle.type_tables.specs.Places.{ArePlaces, row}
use Rattle.type_hierarchy.specs.Scopes.{Sources}
use Rattle.type_tables.proofs.filling.all_entries.Given as goal

abbrev pub invariant-loop-k : goal.invariant-loop-k
invariant-loop-k l = record {
  count : length l.entries ≡ l.k;
  each : (s : Sources) → IsScopes s l.scopes → ArePlaces s (row l.places) → AreValues s l.values → AreEntries s l.places.names l.entries;
}
