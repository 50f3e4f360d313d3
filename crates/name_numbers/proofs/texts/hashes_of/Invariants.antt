use Rattle.std.proofs.Common.{◌≡◌, ℕ, ◌<◌, ◌≤◌, List, length, get_or}
use Rattle.name_numbers.specs.Texts.{front_at, text_hash}
use Rattle.name_numbers.proofs.texts.hashes_of.Given as goal

-- the hashes from a place on, and the one there
pub record AreSoFar (heap : List ℕ) (at hash : ℕ) (hashes : List ℕ) : Type 0 where
  pub within : at ≤ length heap
  pub hash_is : hash ≡ text_hash (front_at heap at)
  pub long : length hashes ≡ length heap
  pub each : (k : ℕ) → at ≤ k → k < length heap → get_or hashes k 0 ≡ text_hash (front_at heap k)

abbrev pub decreases-loop-at : goal.decreases-loop-at
decreases-loop-at l = l.at

abbrev pub invariant-loop-at : goal.invariant-loop-at
invariant-loop-at l = AreSoFar l.heap l.at l.hash l.hashes.items
