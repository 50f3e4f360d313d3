use Rattle.std.proofs.Common.{◌≡◌, ℕ, ◌≤◌, Some}
use Rattle.std.specs.Prelude.{slice_get}
use Rattle.type_hierarchy.specs.Chains.{HasHash}
use Rattle.type_hierarchy.specs.NameHash.{name_hash}
use Rattle.type_hierarchy.specs.Names.{full_name}
use Rattle.type_hierarchy.proofs.ChainLemmas.{ahead_of}
use Rattle.type_hierarchy.proofs.names.Names.find.Given as goal

abbrev pub invariant-loop-at : goal.invariant-loop-at
invariant-loop-at l = record {
  hashed : (m : ℕ) → l.at ≡ Some m → HasHash name_hash l.self-inside.names m (name_hash (full_name l.scope l.path));
  ahead : (k : ℕ) → slice_get l.self-inside.names k ≡ Some (full_name l.scope l.path) → (m : ℕ) × (l.at ≡ Some m) × (k ≤ m);
}

abbrev pub decreases-loop-at : goal.decreases-loop-at
decreases-loop-at l = ahead_of l.at
