use Rattle.std.proofs.Common.{◌≡◌, ℕ, ◌≤◌, Some, map}
use Rattle.std.specs.Prelude.{slice_get}
use Rattle.heaps.specs.Chains.{HasHash}
use Rattle.heaps.specs.Hash.{hash_of}
use Rattle.heaps.specs.Finds.{content_of}
use Rattle.heaps.proofs.ChainLemmas.{ahead_of}
use Rattle.heaps.proofs.chains.Chains.find.Given as goal

abbrev pub invariant-loop-at : goal.invariant-loop-at
invariant-loop-at l = record {
  hashed : (m : ℕ) → l.at ≡ Some m → HasHash hash_of (map (content_of l.bytes) l.self.places) m (hash_of l.content);
  ahead : (k : ℕ) → slice_get (map (content_of l.bytes) l.self.places) k ≡ Some l.content → (m : ℕ) × (l.at ≡ Some m) × (k ≤ m);
}

abbrev pub decreases-loop-at : goal.decreases-loop-at
decreases-loop-at l = ahead_of l.at
