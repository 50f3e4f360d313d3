use Rattle.std.proofs.Common.{◌≡◌, ℕ, Some, length}
use Rattle.std.specs.Prelude.{slice_get}
use Rattle.type_tables.specs.Members.{IsMeaning, member}
use Rattle.type_hierarchy.specs.Scopes.{sources}
use Rattle.type_hierarchy.specs.declared.meanings.Meanings.{Meanings}
use Rattle.type_tables.proofs.scopes.all_meanings.Given as goal

abbrev pub invariant-loop-number : goal.invariant-loop-number
invariant-loop-number l =
    let s = sources l.image l.references in
    record {
      count : length l.all ≡ l.number-index;
      each : (k n : ℕ) (m : Meanings) → slice_get l.numbers k ≡ Some n → slice_get l.all k ≡ Some m → IsMeaning s (member s n) m;
    }
