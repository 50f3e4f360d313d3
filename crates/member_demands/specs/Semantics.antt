-- The accessors of events and properties, as they are looked up (II.22.28).
use Rattle.std.specs.Prelude.{◌≡◌, ℕ, ◌+◌, ◌^◌, ◌<◌, ◌≤◌, List, Contains}
use Rattle.std.specs.List.{range_with_len}
use Rattle.image_model.specs.Columns.{semantics_association, semantics_method}
use Rattle.image_model.specs.Rows.{count_of, HasRow, methods_of, rows_with}

-- these are the rows of MethodSemantics that have a coded index, side by side
pub record AreAccessors (image : List ℕ) (index first count : ℕ) : Type 0 where
  pub rows : rows_with image 0x18 semantics_association index ≡ range_with_len first count
  pub some : 0 < first
  pub within : first + count ≤ count_of image 0x18 + 1
  pub few : first + count ≤ 2 ^ 32

-- the one type that has a member
pub record IsOwnedBy (image : List ℕ) (members : ℕ → List ℕ) (member type : ℕ) : Type 0 where
  pub there : HasRow image 0x02 type
  pub has : Contains (members type) member
  pub only : (other : ℕ) → HasRow image 0x02 other → Contains (members other) member → other ≡ type

-- the methods of rows of MethodSemantics that stand side by side are those of a type
abbrev pub AreMethodsOf : List ℕ → (first count type : ℕ) → Type 0
AreMethodsOf image first count type = (k : ℕ) → k < count → Contains (methods_of image type) (semantics_method image (first + k))
