-- Rows that are found again by their cells.
use Rattle.std.specs.Prelude.{◌≡◌, ℕ, ◌-◌, ◌<◌, ◌&&◌, ◌⊎◌, Bool, nat_eq, List, [], ◌∷◌, ◌++◌, Some, slice_get}
use Rattle.image_tokens.specs.Hashing.{hash_cells}
use Rattle.image_tokens.specs.declared.row_set.Cells.{Cells}

-- the row with this number, counted from 1, has these cells
pub record IsRowAt (rows : List Cells) (cells : Cells) (row : ℕ) : Type 0 where
  pub counted : 0 < row
  pub at : slice_get rows (row - 1) ≡ Some cells

-- no row has these cells
abbrev pub Lacks : List Cells → Cells → Type 0
Lacks rows cells = (k : ℕ) → slice_get rows k ≡ Some cells → ⊥

-- no two rows have the same cells
abbrev pub AreDistinct : List Cells → Type 0
AreDistinct rows = (j k : ℕ) (cells : Cells) → slice_get rows j ≡ Some cells → slice_get rows k ≡ Some cells → j ≡ k

-- something holds of each row
abbrev pub EachRow : (Cells → Type 0) → List Cells → Type 0
EachRow Holds rows = (k : ℕ) (cells : Cells) → slice_get rows k ≡ Some cells → Holds cells

-- these cells have been added at the end, or none
abbrev pub AddsOneAtMost : Cells → List Cells → List Cells → Type 0
AddsOneAtMost cells old new = (new ≡ old) ⊎ (new ≡ old ++ cells ∷ [])

-- whether two rows have the same cells
abbrev pub are_same : Cells → Cells → Bool
are_same a b = nat_eq a.first b.first && (nat_eq a.second b.second && nat_eq a.third b.third)

-- ---- the hash by which a row is found

abbrev pub cells_hash : Cells → ℕ
cells_hash cells = hash_cells cells.first cells.second cells.third
