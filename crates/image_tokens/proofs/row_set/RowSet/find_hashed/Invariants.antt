use Rattle.std.proofs.Common.{◌≡◌, ℕ, ◌≤◌, Some, map}
use Rattle.std.specs.Prelude.{slice_get}
use Rattle.image_tokens.specs.Chains.{HasHash}
use Rattle.image_tokens.specs.Rows.{cells_hash}
use Rattle.image_tokens.proofs.ChainLemmas.{ahead_of}
use Rattle.image_tokens.proofs.row_set.RowSet.find_hashed.Given as goal

abbrev pub invariant-loop-at : goal.invariant-loop-at
invariant-loop-at l = record {
  hashed : (m : ℕ) → l.at ≡ Some m → HasHash cells_hash (map (λ e. e.cells) l.self-inside.rows) m (cells_hash l.cells);
  ahead : (k : ℕ) → slice_get (map (λ e. e.cells) l.self-inside.rows) k ≡ Some l.cells → (m : ℕ) × (l.at ≡ Some m) × (k ≤ m);
}

abbrev pub decreases-loop-at : goal.decreases-loop-at
decreases-loop-at l = ahead_of l.at
