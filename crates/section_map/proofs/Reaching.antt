-- What steps tell of an address by those that it has reached.
use Rattle.std.proofs.Common.{◌≡◌, ℕ, zero, suc, ◌+◌, ◌-◌, ◌<◌, ◌≤◌, inl, inr, List, length, refl, ◌∙◌, ap, arith, add-one}
use Rattle.std.proofs.lemmas.Bool.{cases_lt, le-leb, lt-leb}
use Rattle.section_map.specs.declared.step.Step.{Step}
use Rattle.section_map.specs.Steps.{from_at, first_at, value_by, value_of, IsReached, first_before, from_before}

-- an address that has reached the last of some steps is told its number
pub told_last : (steps : List Step) (n address : ℕ) → from_before steps n ≤ address → value_by steps n address ≡ first_before steps n
told_last steps zero address h = refl
told_last steps (suc n) address h = rw (le-leb (from_at steps n) address h) refl

last_reached : (steps : List Step) (n address : ℕ) → ((k : ℕ) → k < n → from_at steps k ≤ address) → from_before steps n ≤ address
last_reached steps zero address h = omega arith
last_reached steps (suc n) address h = h n (omega arith)

-- steps that it hasn't reached tell nothing
not_reached : (steps : List Step) (n m address : ℕ) → n ≤ m → ((k : ℕ) → n ≤ k → k < m → address < from_at steps k) → value_by steps m address ≡ value_by steps n address
not_reached steps n zero address le h = let e : 0 ≡ n = omega (arith, le) in ap (λ k. value_by steps k address) e
not_reached steps n (suc m) address le h =
    elim (cases_lt n (suc m)) [
      | inl lt ↦ rw (lt-leb (from_at steps m) address (h m (omega (arith, lt)) (omega arith))) (not_reached steps n m address (omega (arith, lt)) (λ k low high. h k low (omega (arith, high))))
      | inr ge ↦ let e : suc m ≡ n = omega (arith, le, ge) in ap (λ k. value_by steps k address) e
    ]

pub reached_tells : (steps : List Step) (address n : ℕ) → IsReached steps address n → value_of steps address ≡ first_before steps n
reached_tells steps address n r = not_reached steps n (length steps) address r.within r.above ∙ told_last steps n address (last_reached steps n address r.below)

-- the code's reading of the last of some steps
pub last_at : (steps : List Step) (n : ℕ) → 0 < n → first_at steps (n - 1) ≡ first_before steps n
last_at steps zero some = absurd (omega (arith, some))
last_at steps (suc n) some = let e : suc n - 1 ≡ n = omega arith in ap (first_at steps) e

-- one step more
pub value_more : (steps : List Step) (n address : ℕ) → value_by steps (n + 1) address ≡ value_by steps (suc n) address
value_more steps n address = ap (λ k. value_by steps k address) (add-one n)

pub from_more : (steps : List Step) (n : ℕ) → from_before steps (n + 1) ≡ from_at steps n
from_more steps n = ap (from_before steps) (add-one n)
