-- Rows of a table beside the items that they are of.
use Rattle.std.specs.Prelude.{◌≡◌, ℕ, ◌+◌, List, Some, length, slice_get}
use Rattle.image_model.specs.Rows.{count_of}

-- what holds of each item and its row, where the first item has this row
abbrev pub AtEach : {X : Type 0} → (ℕ → X → Type 0) → ℕ → List X → Type 0
AtEach {X} P first xs = (k : ℕ) (x : X) → slice_get xs k ≡ Some x → P (first + k) x

-- an item is that of a row, counted from 1
abbrev pub IsItem : {X : Type 0} → List X → ℕ → X → Type 0
IsItem xs row x = (k : ℕ) × (row ≡ 1 + k) × (slice_get xs k ≡ Some x)

-- a table of an image has a row for each of these items, in order, and no others
pub record Reads {X : Type 0} (table : ℕ) (cells : List ℕ → ℕ → List ℕ) (IsRow : List ℕ → X → Type 0) (items : List X) (image : List ℕ) : Type 0 where
  pub count : count_of image table ≡ length items
  pub each : AtEach (λ row x. IsRow (cells image row) x) 1 items
