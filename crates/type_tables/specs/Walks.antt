-- Steps between types that are numbered by their places, and what leads where.
use Rattle.std.specs.Prelude.{ℕ, ◌<◌, ◌≤◌, List, [], length, get_or, nat_eq, Option, None, Some}
use Rattle.std.specs.List.{Contains, IsDistinct}

-- ---- steps

-- a step leads from the type at place i to that at place j
abbrev pub StepsTo : List (List ℕ) → ℕ → ℕ → Type 0
StepsTo steps i j = Contains (get_or steps i []) j

-- one step or more
pub data Leads (steps : List (List ℕ)) (i : ℕ) : ℕ → Type 0 where
  one_step : {j : ℕ} → StepsTo steps i j → Leads steps i j
  step_more : {middle j : ℕ} → Leads steps i middle → StepsTo steps middle j → Leads steps i j

-- each step leads to a type
pub record IsWithin (steps : List (List ℕ)) : Type 0 where
  pub below : (i j : ℕ) → StepsTo steps i j → j < length steps

-- each type has a higher rank than those to which it steps
abbrev pub IsRanked : List (List ℕ) → (ℕ → ℕ) → Type 0
IsRanked steps rank = (i j : ℕ) → StepsTo steps i j → rank j < rank i

-- steps lead from the type at place k back to it, and from none before it; or from none at all, and there are ranks
abbrev pub IsFirstBack : List (List ℕ) → Option ℕ → Type 0
IsFirstBack steps (Some k) = (k < length steps) × Leads steps k k × ((j : ℕ) → j < k → Leads steps j j → ⊥)
IsFirstBack steps None = ((j : ℕ) → Leads steps j j → ⊥) × ((rank : ℕ → ℕ) × IsRanked steps rank)

-- ---- the types to which steps lead

-- exactly the types to which steps lead from one, once each
pub record IsReach (steps : List (List ℕ)) (i : ℕ) (ids : List ℕ) : Type 0 where
  pub once : IsDistinct nat_eq ids
  pub only : (j : ℕ) → Contains ids j → Leads steps i j
  pub all : (j : ℕ) → Leads steps i j → Contains ids j

-- ---- ranks by numbers

-- no step leads to a type with a higher number
abbrev pub NeverRises : List (List ℕ) → List ℕ → Type 0
NeverRises steps ranks = (i j : ℕ) → StepsTo steps i j → get_or ranks j 0 ≤ get_or ranks i 0

-- each step from a type before place k leads to one with a lower number
abbrev pub FallsBefore : List (List ℕ) → List ℕ → ℕ → Type 0
FallsBefore steps ranks k = (i j : ℕ) → i < k → StepsTo steps i j → get_or ranks j 0 < get_or ranks i 0
