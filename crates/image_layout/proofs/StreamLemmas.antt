-- How long a stream of tables is.
use Rattle.std.proofs.Common.{◌≡◌, ℕ, zero, suc, ◌+◌, ◌*◌, ◌^◌, ◌<◌, ◌≤◌, Bool, true, false, cond, List, [], ◌∷◌, ◌++◌, length, drop, ◌∙◌, ap, arith}
use Rattle.std.specs.Prelude.{sum_by, slice_index}
use Rattle.std.specs.List.{range_with_len}
use Rattle.std.proofs.Math.Nat.{mul-le-mul_left}
use Rattle.std.proofs.lemmas.List.{get_or-drop}
use Rattle.std.proofs.lemmas.List.Sums.{sum_by-cons, sum_by_push}
use borrow.Author.Numbers.{ones_of_64}
use Rattle.byteorder.specs.Endian.{little_number}
use Rattle.byteorder.specs.Numbers.{little_from-lt}
use Rattle.metadata_tables.specs.Encoding.{rows_in, Holds}
use Rattle.metadata_tables.specs.Schema.{columns_of}
use Rattle.metadata_tables.specs.Stream.{heap_sizes, row_count, width, columns_size, table_start, row_size, header_size, present}
use Rattle.metadata_tables.specs.declared.schema.Column.{Column}
use Rattle.metadata_tables.specs.declared.schema.Column.TheVariants.{Number, Strings, Guids, Blobs, Row, Run, Tagged}
use Rattle.image_layout.specs.Sizes.{widest, widest_row, rows_bytes, stream_bytes}
use Rattle.image_members.specs.Pushing.{Tables}

four_or_two : (b : Bool) → cond b 4 2 ≤ 4
four_or_two true = omega arith
four_or_two false = omega arith

two_or_four : (b : Bool) → cond b 2 4 ≤ 4
two_or_four true = omega arith
two_or_four false = omega arith

width_le : (counts : ℕ → ℕ) (heaps : ℕ) (column : Column) → width counts heaps column ≤ widest column
width_le counts heaps (Number bytes) = omega arith
width_le counts heaps (Strings nil) = four_or_two _
width_le counts heaps (Guids nil) = four_or_two _
width_le counts heaps (Blobs nil) = four_or_two _
width_le counts heaps (Row table) = two_or_four _
width_le counts heaps (Run table) = two_or_four _
width_le counts heaps (Tagged kind nil) = two_or_four _

columns_le : (counts : ℕ → ℕ) (heaps : ℕ) (columns : List Column) → columns_size counts heaps columns ≤ sum_by widest columns
columns_le counts heaps [] = omega arith
columns_le counts heaps (c ∷ cs) =
    let here = width_le counts heaps c in
    let rest = columns_le counts heaps cs in
    omega (arith, sum_by-cons (width counts heaps) c cs, sum_by-cons widest c cs)

row_size_le : (stream : List ℕ) (table : ℕ) → row_size stream table ≤ widest_row table
unfolding row_size widest_row
row_size_le stream table = columns_le (row_count stream) (heap_sizes stream) (columns_of table)

range_more : (a n : ℕ) → range_with_len a (suc n) ≡ range_with_len a n ++ (a + n) ∷ []
range_more a zero = let e : a ≡ a + 0 = omega arith in ap (λ k. k ∷ []) e
range_more a (suc n) =
    let e : a + 1 + n ≡ a + suc n = omega arith in
    ap (λ ks. a ∷ ks) (range_more (a + 1) n ∙ ap (λ k. range_with_len (a + 1) n ++ k ∷ []) e)

rows_bytes_more : (tables : Tables) (n : ℕ) → rows_bytes tables (suc n) ≡ rows_bytes tables n + rows_in tables n * widest_row n
unfolding rows_bytes
rows_bytes_more tables n =
    ap (sum_by (λ table. rows_in tables table * widest_row table)) (range_more 0 n)
    ∙ sum_by_push (λ table. rows_in tables table * widest_row table) (range_with_len 0 n) (0 + n)
    ∙ ap (λ k. rows_bytes tables n + rows_in tables k * widest_row k) (omega arith)

module _ (tables : Tables) (wide : ℕ) (stream : List ℕ) (h : Holds tables wide stream) where
  start_le : (table : ℕ) → table_start stream table ≤ header_size stream + rows_bytes tables table
  unfolding table_start
  start_le zero = omega arith
  start_le (suc table) =
      let before = start_le table in
      let count = h.counts table in
      let row = row_size_le stream table in
      let more = rows_bytes_more tables table in
      let rows : row_count stream table * row_size stream table ≤ rows_in tables table * widest_row table = rw count (mul-le-mul_left (rows_in tables table) row) in
      omega arith

header_short : (stream : List ℕ) → ((i : ℕ) → slice_index stream i < 256) → header_size stream ≤ 280
unfolding header_size present
header_short stream bytes =
    let small : little_number 8 (drop 8 stream) < 2 ^ 64 = little_from-lt 0 8 (drop 8 stream) (λ i. rw get_or-drop (bytes (8 + i))) in
    let ones = ones_of_64 (little_number 8 (drop 8 stream)) small in
    omega arith

pub stream_short : (tables : Tables) (wide : ℕ) (stream : List ℕ) → ((i : ℕ) → slice_index stream i < 256) → Holds tables wide stream → length stream ≤ stream_bytes tables
unfolding stream_bytes
stream_short tables wide stream bytes h =
    let head = header_short stream bytes in
    let start = start_le tables wide stream h 0x2D in
    let ends = h.ends in
    omega arith
