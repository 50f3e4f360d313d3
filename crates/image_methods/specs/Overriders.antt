-- The methods that override, as they are kept (II.22.27).
use Rattle.std.specs.Prelude.{◌≡◌, ℕ, ◌+◌, ◌*◌, ◌≤◌, ◌<◌, List, length, slice_index}
use Rattle.image_model.specs.Columns.{override_body}
use Rattle.image_model.specs.Rows.{count_of}

-- for each row of MethodImpl, counted from 1, the row of the method that is its body
pub record AreOverriders (image : List ℕ) (bodies : List ℕ) : Type 0 where
  pub long : length bodies ≡ count_of image 0x19 + 1
  pub each : (row : ℕ) → 0 < row → row ≤ count_of image 0x19 → override_body image row ≡ slice_index bodies row * 2
