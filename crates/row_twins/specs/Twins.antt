-- Rows that are like earlier ones.
use Rattle.std.specs.Prelude.{ℕ, ◌<◌, ◌≤◌, Option, Some, None}
use Rattle.row_twins.specs.Linked.{AreLinked, HasRow}
use Rattle.row_twins.specs.declared.hashed.HashedRows.{HashedRows}

-- a row is one of so many, counted from 1
abbrev pub IsWithin : ℕ → ℕ → Type 0
IsWithin count row = (0 < row) × (row ≤ count)

-- an earlier row is like this one
abbrev pub HasTwin : (ℕ → ℕ → Type 0) → ℕ → Type 0
HasTwin alike row = (earlier : ℕ) × (0 < earlier) × (earlier < row) × alike earlier row

-- the first row that is like an earlier one, where there is one
abbrev pub IsFirstTwin : ℕ → (ℕ → ℕ → Type 0) → Option ℕ → Type 0
IsFirstTwin count alike None = (row : ℕ) → IsWithin count row → HasTwin alike row → ⊥
IsFirstTwin count alike (Some twin) = IsWithin count twin × HasTwin alike twin × ((row : ℕ) → 0 < row → row < twin → HasTwin alike row → ⊥)

-- the rows before one were put in, each with its hash, and no others
pub record AreSeen (count : ℕ) (hashed : ℕ → ℕ → Type 0) (row : ℕ) (seen : HashedRows) : Type 0 where
  pub linked : AreLinked seen
  pub only : (hash earlier : ℕ) → HasRow seen.rows hash earlier → (0 < earlier) × (earlier < row) × (earlier ≤ count) × hashed earlier hash
  pub all : (earlier : ℕ) → 0 < earlier → earlier < row → (hash : ℕ) × HasRow seen.rows hash earlier
