use Rattle.std.proofs.Common.{◌≡◌, ℕ, ◌≤◌, Some}
use Rattle.std.specs.Prelude.{slice_get}
use Rattle.type_hierarchy.specs.Chains.{HasHash}
use Rattle.type_hierarchy.specs.NameHash.{text_hash}
use Rattle.type_hierarchy.proofs.ChainLemmas.{ahead_of}
use Rattle.type_tables.proofs.texts.Texts.find.Given as goal

abbrev pub invariant-loop-at : goal.invariant-loop-at
invariant-loop-at l = record {
  hashed : (m : ℕ) → l.at ≡ Some m → HasHash text_hash l.self-inside.texts m (text_hash l.text);
  ahead : (k : ℕ) → slice_get l.self-inside.texts k ≡ Some l.text → (m : ℕ) × (l.at ≡ Some m) × (k ≤ m);
}

abbrev pub decreases-loop-at : goal.decreases-loop-at
decreases-loop-at l = ahead_of l.at
