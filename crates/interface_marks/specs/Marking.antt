-- Rows of InterfaceImpl that are marked one after the other (II.22.23).
use Rattle.std.specs.Prelude.{◌≡◌, ◌≢◌, ℕ, ◌+◌, ◌<◌, ◌≤◌, Bool, true, false, List, Some, None, length, slice_index, slice_index_or}
use Rattle.hash_places.specs.Slots.{place_of}
use Rattle.hash_places.specs.declared.slots.Slot.{Slot}
use Rattle.image_model.specs.Columns.{interface_class}

-- an earlier row of the same class whose type has the same number
abbrev pub IsAlike : List ℕ → List ℕ → (earlier row : ℕ) → Type 0
IsAlike image numbers earlier row =
    (interface_class image earlier ≡ interface_class image row) × (slice_index numbers earlier ≡ slice_index numbers row)

-- the rows so far are marked where no earlier one is alike
pub record AreMarked (image : List ℕ) (numbers : List ℕ) (upto : ℕ) (marks : List Bool) : Type 0 where
  pub long : length marks ≡ upto + 1
  pub marked : (row earlier : ℕ) → 0 < earlier → earlier < row → row ≤ upto → slice_index_or marks row false ≡ true → IsAlike image numbers earlier row → ⊥
  pub others : (row : ℕ) → 0 < row → row ≤ upto → slice_index_or marks row false ≡ false
      → (earlier : ℕ) × (0 < earlier) × (earlier < row) × IsAlike image numbers earlier row

-- of each number so far a row that has it, with the greatest class
pub record AreLast (image : List ℕ) (numbers : List ℕ) (upto : ℕ) (last : List Slot) : Type 0 where
  pub some : (number row : ℕ) → place_of last number ≡ Some row → (0 < row) × (row ≤ upto) × (slice_index numbers row ≡ number)
  pub most : (number row k : ℕ) → place_of last number ≡ Some row → 0 < k → k ≤ upto → slice_index numbers k ≡ number
      → interface_class image k ≤ interface_class image row
  pub none : (number k : ℕ) → place_of last number ≡ None → 0 < k → k ≤ upto → slice_index numbers k ≢ number
