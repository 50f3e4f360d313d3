-- Numbers of two bytes.
use Rattle.std.proofs.Common.{◌≡◌, ℕ, ◌+◌, ◌*◌, ◌^◌, ◌<◌, true, false, List, drop, refl, sym, ap, subst, arith, true≢false}
use Rattle.std.proofs.lemmas.Bool.{eqb-true}
use Rattle.std.proofs.lemmas.List.{get_or-drop}
use Rattle.std.specs.Prelude.{IsTrue, slice_index}
use Rattle.byteorder.specs.Endian.{little_number}
use Rattle.metadata_tables.specs.Stream.{cell, cell_place, column_of, column_width, width, row_count, heap_sizes}
use Rattle.metadata_tables.specs.declared.schema.Column.{Column}
use Rattle.metadata_tables.specs.declared.schema.Column.TheVariants.{Number, Strings, Guids, Blobs, Row, Run, Tagged}
use Rattle.row_parts.specs.Kinds.{is_short, AreBytes}

never : {A : Type 0} → false ≡ true → A
never k = absurd (true≢false (sym k))

is_two : (c : Column) → IsTrue (is_short c) → c ≡ Number 2
is_two (Number bytes) k = ap Number (eqb-true bytes 2 k)
is_two (Strings nil) k = never k
is_two (Guids nil) k = never k
is_two (Blobs nil) k = never k
is_two (Row table) k = never k
is_two (Run table) k = never k
is_two (Tagged kind nil) k = never k

two_bytes : (bytes : List ℕ) (p : ℕ) → AreBytes bytes → little_number 2 (drop p bytes) < 2 ^ 16
two_bytes bytes p are =
    let a : slice_index (drop p bytes) 0 < 256 = at 0 in
    let b : slice_index (drop p bytes) 1 < 256 = at 1 in
    let e : little_number 2 (drop p bytes) ≡ slice_index (drop p bytes) 0 + 256 * (slice_index (drop p bytes) 1 + 256 * 0) = refl in
    omega (arith, a, b, e)
  where
    at : (i : ℕ) → slice_index (drop p bytes) i < 256
    at i = subst (λ n. n < 256) (sym (get_or-drop p bytes i 0)) (are (p + i))

two_wide : (stream : List ℕ) (table column : ℕ) → IsTrue (is_short (column_of table column)) → column_width stream table column ≡ 2
unfolding column_width
two_wide stream table column k = ap (width (row_count stream) (heap_sizes stream)) (is_two (column_of table column) k)

pub cell_is_short : (stream : List ℕ) (table row column : ℕ) → AreBytes stream → IsTrue (is_short (column_of table column)) → cell stream table row column < 2 ^ 16
unfolding cell
cell_is_short stream table row column are k =
    subst (λ w. little_number w (drop (cell_place stream table row column) stream) < 2 ^ 16) (sym (two_wide stream table column k)) (two_bytes stream (cell_place stream table row column) are)
