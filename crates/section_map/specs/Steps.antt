-- Steps at addresses: from each on, up to the next, one number is told.
use Rattle.std.specs.Prelude.{◌≡◌, ℕ, zero, suc, ◌≤◌, ◌<◌, min, nat_le, if◌then◌else◌, List, length, slice_index_or}
use Rattle.section_map.specs.declared.step.Step.{Step}

-- the address of a step, and the number that it tells
abbrev pub step_at : List Step → ℕ → Step
step_at steps k = slice_index_or steps k record { from = 0; first = 65536 }

abbrev pub from_at : List Step → ℕ → ℕ
from_at steps k = (step_at steps k).from

abbrev pub first_at : List Step → ℕ → ℕ
first_at steps k = (step_at steps k).first

-- the number that the first n steps tell of an address: that of the last of them which it has reached, or 65536, which stands for none
abbrev pub value_by : List Step → ℕ → ℕ → ℕ
value_by steps zero address = 65536
value_by steps (suc n) address = if nat_le (from_at steps n) address then first_at steps n else value_by steps n address

-- the number that all tell
abbrev pub value_of : List Step → ℕ → ℕ
value_of steps address = value_by steps (length steps) address

-- the steps rise
abbrev pub AreRising : List Step → Type 0
AreRising steps = (j k : ℕ) → j ≤ k → k < length steps → from_at steps j ≤ from_at steps k

-- an address has reached the first n steps and no others
pub record IsReached (steps : List Step) (address n : ℕ) : Type 0 where
  pub within : n ≤ length steps
  pub below : (k : ℕ) → k < n → from_at steps k ≤ address
  pub above : (k : ℕ) → n ≤ k → k < length steps → address < from_at steps k

-- the number that the last of the first n steps tells, or that for none; and its address
abbrev pub first_before : List Step → ℕ → ℕ
first_before steps zero = 65536
first_before steps (suc n) = first_at steps n

abbrev pub from_before : List Step → ℕ → ℕ
from_before steps zero = 0
from_before steps (suc n) = from_at steps n

-- these rise, and tell what a function says
pub record Tell (steps : List Step) (says : ℕ → ℕ) : Type 0 where
  pub rising : AreRising steps
  pub values : (address : ℕ) → value_of steps address ≡ says address

-- ---- two lists merged

-- the step at one place is the next of those that are left of two lists
abbrev pub IsNext : (one : List Step) (k : ℕ) (other : List Step) (m : ℕ) → Type 0
IsNext one k other m = (k < length one) × (m < length other → from_at one k ≤ from_at other m)

-- the step at a place of one list, with the lesser of its number and of that which the other list tells before a place
abbrev pub lesser : (one : List Step) (k : ℕ) (other : List Step) (m : ℕ) → Step
lesser one k other m = record { from = from_at one k; first = min (first_at one k) (first_before other m) }

-- Steps tell the lesser of what the first of each list tell; they and those come before what is left.
pub record AreMerged (left : List Step) (i : ℕ) (right : List Step) (j : ℕ) (steps : List Step) : Type 0 where
  pub left_in : i ≤ length left
  pub right_in : j ≤ length right
  pub rising : AreRising steps
  pub before_left : i < length left → from_before steps (length steps) ≤ from_at left i
  pub before_right : j < length right → from_before steps (length steps) ≤ from_at right j
  pub right_left : i < length left → from_before right j ≤ from_at left i
  pub left_right : j < length right → from_before left i ≤ from_at right j
  pub values : (address : ℕ) → value_of steps address ≡ min (value_by left i address) (value_by right j address)
