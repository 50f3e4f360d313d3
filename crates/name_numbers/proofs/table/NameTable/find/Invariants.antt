use Rattle.std.proofs.Common.{◌≡◌, ℕ, ◌≤◌, Some}
use Rattle.std.specs.Prelude.{slice_get}
use Rattle.name_numbers.specs.Chains.{HasHash}
use Rattle.name_numbers.specs.Table.{names_in, told, told_hash}
use Rattle.name_numbers.proofs.Chaining.{ahead_of}
use Rattle.name_numbers.proofs.table.NameTable.find.Given as goal

abbrev pub invariant-loop-at : goal.invariant-loop-at
invariant-loop-at l = record {
  hashed : (m : ℕ) → l.at ≡ Some m → HasHash told_hash (names_in l.texts l.self.entries) m (told_hash (told l.texts l.key));
  ahead : (k : ℕ) → slice_get (names_in l.texts l.self.entries) k ≡ Some (told l.texts l.key) → (m : ℕ) × (l.at ≡ Some m) × (k ≤ m);
}

abbrev pub decreases-loop-at : goal.decreases-loop-at
decreases-loop-at l = ahead_of l.at
