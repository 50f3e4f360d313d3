-- The types that enclose types, as they are kept (II.22.32).
use Rattle.std.specs.Prelude.{◌≡◌, ℕ, ◌+◌, ◌≤◌, List, length, slice_index}
use Rattle.image_model.specs.Rows.{count_of, enclosing}

-- for each row of TypeDef the row of the type that encloses it, or 0
pub record AreOuters (image : List ℕ) (outers : List ℕ) : Type 0 where
  pub long : length outers ≡ count_of image 0x02 + 1
  pub each : (type : ℕ) → type ≤ count_of image 0x02 → slice_index outers type ≡ enclosing image type
