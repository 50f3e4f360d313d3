use Rattle.std.proofs.Common.{◌≡◌, ℕ, ◌<◌, ◌≤◌, List, length, get_or}
use Rattle.text_lengths.specs.Lengths.{length_from}
use Rattle.text_lengths.proofs.Fronts.{capped}
use Rattle.text_lengths.proofs.lengths.lengths_of.Given as goal

-- the lengths from a place on, and the one there
pub record AreSoFar (heap : List ℕ) (at now : ℕ) (lengths : List ℕ) : Type 0 where
  pub within : at ≤ length heap
  pub now_is : now ≡ capped (length_from heap at)
  pub long : length lengths ≡ length heap
  pub each : (k : ℕ) → at ≤ k → k < length heap → get_or lengths k 0 ≡ capped (length_from heap k)

abbrev pub decreases-loop-at : goal.decreases-loop-at
decreases-loop-at l = l.at

abbrev pub invariant-loop-at : goal.invariant-loop-at
invariant-loop-at l = AreSoFar l.heap l.at l.many l.lengths.items
