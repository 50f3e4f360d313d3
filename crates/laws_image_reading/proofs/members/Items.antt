-- Rows by the items that they are of.
use Rattle.std.proofs.Common.{◌≡◌, subst, ℕ, ◌+◌, ◌-◌, List, length, Some, arith}
use Rattle.std.specs.Prelude.{slice_get}
use Rattle.image_model.specs.Rows.{HasRow, count_of}
use Rattle.image_model.specs.Used.{IsUsed}
use Rattle.laws_image_parts.proofs.names.General.{get_some}

-- what holds of the row of each item holds of each row
pub by_item : {X : Type 0} (image : List ℕ) (P : ℕ → Type 0) (table row : ℕ) (xs : List X) → count_of image table ≡ length xs → HasRow image table row
    → ((k : ℕ) (x : X) → slice_get xs k ≡ Some x → P (1 + k)) → P row
by_item image P table row xs count there each =
    let some = there.0 in
    let high = there.1 in
    let found = get_some xs (row - 1) (omega arith) in
    let same : 1 + (row - 1) ≡ row = omega arith in
    subst P same (each (row - 1) found.0 found.1)

-- a row that is used is there
pub used_row : {image : List ℕ} {table row : ℕ} → IsUsed image table row → HasRow image table row
used_row (IsUsed.by_row other there names is row) = row
used_row (IsUsed.by_reference used names is row) = row
used_row (IsUsed.by_body there names is kind row) = row
