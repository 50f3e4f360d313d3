-- The first row of an image's tables that doesn't meet a demand (II.22).
use Rattle.std.specs.Prelude.{ℕ}
use Rattle.metadata_tables.specs.Faults.{IsEarlier}

-- A row is the first that doesn't meet a demand.
pub record IsFirstBad (meets : ℕ → ℕ → Type 0) (table row : ℕ) : Type 0 where
  pub bad : meets table row → ⊥
  pub first : (t r : ℕ) → IsEarlier t r table row → meets t r

-- every row of every table meets it
abbrev pub AllMeet : (ℕ → ℕ → Type 0) → Type 0
AllMeet meets = (table row : ℕ) → meets table row
