use Rattle.std.proofs.Common.{ℕ, ◌≡◌, ◌<◌, length, get_or}
use Rattle.type_terms.specs.declared.name.Scope.TheVariants.{Extern}
use Rattle.type_tables.specs.Entries.{IsNaming}
use Rattle.type_tables.specs.Members.{scope_seen}
use Rattle.type_hierarchy.specs.Scopes.{Sources}
use Rattle.type_tables.proofs.naming.meanings.Given as goal

abbrev pub invariant-loop-number : goal.invariant-loop-number
invariant-loop-number l = record {
  count : length l.externs ≡ l.number;
  each : (s : Sources) → IsNaming s l.naming → (k : ℕ) → k < l.number → get_or l.externs k (Extern k) ≡ scope_seen s l.is_image l.of (Extern k);
}
