-- A doubly linked list of numbers, by the number after and the number before each. One number more stands for both ends.
use Rattle.std.specs.Prelude.{◌≡◌, ℕ, zero, suc, ◌+◌, ◌<◌, true, false, nat_eq, if◌then◌else◌, List, [], ◌∷◌, length, get_or}
use Rattle.std.specs.List.{IsDistinct}
use Rattle.stack_states.specs.Waiting.{has}

-- from `k` on to the end, in at most so many steps
unfoldable pub walk : List ℕ → ℕ → ℕ → ℕ → List ℕ
walk after zero end k = []
walk after (suc steps) end k = if nat_eq k end then [] else k ∷ walk after steps end (get_or after k 0)

-- the numbers from the first to the last
unfoldable pub numbers_in : List ℕ → ℕ → List ℕ
numbers_in after end = walk after (end + 1) end (get_or after end 0)

-- the links lead from `start` through the numbers to `end`, and back the same way
abbrev pub Chained : List ℕ → List ℕ → ℕ → List ℕ → ℕ → Type 0
Chained before after start [] end = (get_or after start 0 ≡ end) × (get_or before end 0 ≡ start)
Chained before after start (k ∷ ks) end = (get_or after start 0 ≡ k) × (get_or before k 0 ≡ start) × Chained before after k ks end

-- the links in both directions are these numbers, each below `end` and there once; any other number leads to itself
pub record IsLinked (before after : List ℕ) (end : ℕ) (numbers : List ℕ) : Type 0 where
  pub befores : length before ≡ end + 1
  pub afters : length after ≡ end + 1
  pub chained : Chained before after end numbers end
  pub below : (k : ℕ) → has numbers k ≡ true → k < end
  pub once : IsDistinct nat_eq numbers
  pub apart : (k : ℕ) → k < end → has numbers k ≡ false → get_or after k 0 ≡ k
