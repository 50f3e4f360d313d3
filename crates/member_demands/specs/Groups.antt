-- Rows that belong to one owner, as they are looked up (II.22).
use Rattle.std.specs.Prelude.{◌≡◌, ℕ, ◌+◌, ◌^◌, ◌<◌, ◌≤◌, List, [], ◌∷◌, slice_index}
use Rattle.std.specs.List.{range_with_len}
use Rattle.assembly_tree.specs.declared.members.Constant.{Constant}
use Rattle.image_model.specs.Columns.{generic_number}
use Rattle.image_model.specs.Members.{ConstantIs}
use Rattle.image_model.specs.Rows.{count_of, rows_with}
use Rattle.row_groups.specs.Ranges.{cell_of}

-- the rows of a table that hold a value in a column stand side by side
pub record StandTogether (image : List ℕ) (table column value first count : ℕ) : Type 0 where
  pub rows : rows_with image table (cell_of table column) value ≡ range_with_len first count
  pub some : 0 < first
  pub within : first + count ≤ count_of image table + 1
  pub few : first + count ≤ 2 ^ 32

-- rows of GenericParam that stand side by side are numbered from 0
abbrev pub AreNumbered : List ℕ → (first count : ℕ) → Type 0
AreNumbered image first count = (k : ℕ) → k < count → generic_number image (first + k) ≡ k

-- how many bytes a value of each element type has (II.22.9, II.23.1.16), up to that of null; 0 where it has none of one width
abbrev pub widths : List ℕ
widths = 0 ∷ 0 ∷ 1 ∷ 2 ∷ 1 ∷ 1 ∷ 2 ∷ 2 ∷ 4 ∷ 4 ∷ 8 ∷ 8 ∷ 4 ∷ 8 ∷ 0 ∷ 0 ∷ 0 ∷ 0 ∷ 4 ∷ []

abbrev pub width_of : ℕ → ℕ
width_of element = slice_index widths element

-- rows of Constant that stand side by side are at most one, which is a constant
abbrev pub AreConstants : List ℕ → (first count : ℕ) → Type 0
AreConstants image first count = (count ≤ 1) × (count ≡ 1 → (c : Constant) × ConstantIs image first c)
