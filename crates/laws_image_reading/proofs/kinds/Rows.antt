-- Rows of an image and their items, and tokens as coded indexes.
use Rattle.std.proofs.Common.{◌≡◌, subst, ℕ, ◌+◌, ◌-◌, ◌/◌, ◌%◌, ◌^◌, List, length, Option, Some, None, arith}
use Rattle.std.specs.Prelude.{IsTrue, is_none, slice_get}
use Rattle.metadata_tables.specs.declared.coded.Coded.{Coded}
use Rattle.image_tokens.specs.Indexes.{IsToken, index_of, index_of_token}
use Rattle.image_model.specs.Rows.{HasRow, count_of}
use Rattle.laws_image_reading.proofs.kinds.General.{get_some}

-- what holds of the row of each item holds of each row
pub by_row : {X : Type 0} (P : ℕ → Type 0) (image : List ℕ) (table row : ℕ) (xs : List X) → count_of image table ≡ length xs → HasRow image table row
    → ((k : ℕ) (x : X) → slice_get xs k ≡ Some x → P (1 + k)) → P row
by_row P image table row xs count there each =
    let some = there.0 in
    let high = there.1 in
    let found = get_some xs (row - 1) (omega arith) in
    let same : 1 + (row - 1) ≡ row = omega arith in
    subst P same (each (row - 1) found.0 found.1)

-- the index of a token's row
pub index_by_token : (kind : Coded) (token table row : ℕ) → IsToken token table row → index_of_token kind token ≡ index_of kind table row
index_by_token kind token table row is =
    let at = is.is in
    let fits = is.fits in
    let t : token / 2 ^ 24 ≡ table = omega arith in
    let n : token % 2 ^ 24 ≡ row = omega arith in
    λ i. index_of kind (t i) (n i)

pub none_is : {X : Type 0} (o : Option X) → IsTrue (is_none o) → o ≡ None
none_is None h = cc
none_is (Some x) h = absurd cc
