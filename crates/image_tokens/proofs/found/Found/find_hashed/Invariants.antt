use Rattle.std.proofs.Common.{◌≡◌, ℕ, ◌≤◌, Some, map}
use Rattle.std.specs.Prelude.{slice_get}
use Rattle.image_tokens.specs.Chains.{HasHash}
use Rattle.image_tokens.proofs.ChainLemmas.{ahead_of}
use Rattle.image_tokens.proofs.found.Found.find_hashed.Given as goal

abbrev pub invariant-loop-at : goal.invariant-loop-at
invariant-loop-at g l = record {
  hashed : (m : ℕ) → l.at ≡ Some m → HasHash g.T.Term.hash (map (λ e. e.term.now) l.self-inside.entries) m (g.T.Term.hash l.term);
  ahead : (k : ℕ) → slice_get (map (λ e. e.term.now) l.self-inside.entries) k ≡ Some l.term → (m : ℕ) × (l.at ≡ Some m) × (k ≤ m);
}

abbrev pub decreases-loop-at : goal.decreases-loop-at
decreases-loop-at g l = ahead_of l.at
