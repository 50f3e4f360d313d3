-- Bytes behind the last row of a stream change nothing of its tables.
use Rattle.std.proofs.Common.{◌≡◌, ℕ, zero, suc, ◌+◌, ◌-◌, ◌*◌, ◌%◌, ◌^◌, ◌<◌, ◌≤◌, List, ◌++◌, length, take, drop, refl, sym, ap, ◌∙◌, arith, ⊎_elim}
use Rattle.std.specs.Int.{bit_at}
use Rattle.std.specs.Int.RustNames.{count_ones}
use Rattle.std.proofs.lemmas.Bool.{cases_eq}
use Rattle.std.proofs.lemmas.List.{length-append, length-drop, drop-append-le, get_or_append_left}
use Rattle.byteorder.specs.Endian.{little_number}
use Rattle.byteorder.specs.Numbers.{little_from-append}
use Rattle.metadata_tables.specs.Schema.{columns_of}
use Rattle.metadata_tables.specs.Stream.{present, header_size, count_place, row_count, heap_sizes, width, columns_size, column_of, column_width, column_place, row_size, table_start, row_end, cell_place, cell, IsRow}
use Rattle.metadata_tables.specs.Faults.{IsWhole}
use Rattle.metadata_tables.specs.Laws.{LongerStream}
use Rattle.metadata_tables.proofs.Bits.{header_size_is, count_fits, row_count_there, row_count_none}
use Rattle.metadata_tables.proofs.Places.{cell_is, cell_lies}

-- a number that lies in a list
number-append : (xs ys : List ℕ) (w p : ℕ) → p + w ≤ length xs → little_number w (drop p (xs ++ ys)) ≡ little_number w (drop p xs)
number-append xs ys w p h =
    let rest = length-drop p xs in
    ap (λ (s : List ℕ). little_number w s) (drop-append-le p xs ys (omega arith)) ∙ little_from-append w (drop p xs) ys (omega (arith, rest, h))

module _ (stream more : List ℕ) (w : IsWhole stream) where
  room : 24 ≤ length stream
  room = let e = header_size_is stream in let h = w.header in omega (arith, e, h)

  same_heaps : heap_sizes (stream ++ more) ≡ heap_sizes stream
  same_heaps = get_or_append_left stream more 0 6 (omega (arith, room))

  same_present : present (stream ++ more) ≡ present stream
  unfolding present
  same_present = number-append stream more 8 8 (omega (arith, room))

  same_count_place : (t : ℕ) → count_place (stream ++ more) t ≡ count_place stream t
  unfolding count_place
  same_count_place t = ap (λ (m : ℕ). 24 + 4 * count_ones (m % 2 ^ t)) same_present

  same_header_size : header_size (stream ++ more) ≡ header_size stream
  unfolding header_size
  same_header_size = ap (λ (m : ℕ). 24 + 4 * count_ones m) same_present

  same_count : (t : ℕ) → row_count (stream ++ more) t ≡ row_count stream t
  same_count t = ⊎_elim
      (λ there.
      let bit : bit_at (present (stream ++ more)) t ≡ 1 = rw same_present there in
      let fits = count_fits stream t there in
      let h = w.header in
      row_count_there (stream ++ more) t bit
      ∙ ap (λ (p : ℕ). little_number 4 (drop p (stream ++ more))) (same_count_place t)
      ∙ number-append stream more 4 (count_place stream t) (omega (arith, fits, h))
      ∙ sym (row_count_there stream t there))
      (λ absent.
      row_count_none (stream ++ more) t (λ bit. absent (rw same_present at bit)) ∙ sym (row_count_none stream t absent))
      (cases_eq (bit_at (present stream) t) 1)

  same_counts : row_count (stream ++ more) ≡ row_count stream
  same_counts = λ i t. same_count t i

  same_row_size : (t : ℕ) → row_size (stream ++ more) t ≡ row_size stream t
  unfolding row_size
  same_row_size t =
      ap (λ (h : ℕ). columns_size (row_count (stream ++ more)) h (columns_of t)) same_heaps
      ∙ ap (λ (g : ℕ → ℕ). columns_size g (heap_sizes stream) (columns_of t)) same_counts

  same_column_place : (t k : ℕ) → column_place (stream ++ more) t k ≡ column_place stream t k
  unfolding column_place
  same_column_place t k =
      ap (λ (h : ℕ). columns_size (row_count (stream ++ more)) h (take k (columns_of t))) same_heaps
      ∙ ap (λ (g : ℕ → ℕ). columns_size g (heap_sizes stream) (take k (columns_of t))) same_counts

  same_column_width : (t k : ℕ) → column_width (stream ++ more) t k ≡ column_width stream t k
  unfolding column_width
  same_column_width t k =
      ap (λ (h : ℕ). width (row_count (stream ++ more)) h (column_of t k)) same_heaps
      ∙ ap (λ (g : ℕ → ℕ). width g (heap_sizes stream) (column_of t k)) same_counts

  same_start : (t : ℕ) → table_start (stream ++ more) t ≡ table_start stream t
  unfolding table_start
  same_start zero = same_header_size
  same_start (suc t) = rw (same_start t, same_count t, same_row_size t) refl

  same_end : (t row : ℕ) → row_end (stream ++ more) t row ≡ row_end stream t row
  same_end t row = rw (same_start t, same_row_size t) refl

  still_whole : IsWhole (stream ++ more)
  still_whole =
      let longer = length-append stream more in
      record {
        header = let h = w.header in omega (arith, same_header_size, h, longer);
        tables = λ t foreign. w.tables t (rw same_present at foreign.0, foreign.1);
        rows = λ t row is. let e = same_end t row in
            let h = w.rows t row (is.0, rw (same_count t) at is.1) in
            omega (arith, e, h, longer);
      }

  same_cell : (t row k : ℕ) → IsRow stream t row → k < length (columns_of t) → cell (stream ++ more) t row k ≡ cell stream t row k
  same_cell t row k is h =
      let lies = cell_lies stream t row k w is h in
      let place : cell_place (stream ++ more) t row k ≡ cell_place stream t row k = rw (same_end t (row - 1), same_column_place t k) refl in
      cell_is (stream ++ more) t row k
      ∙ ap (λ (c : ℕ). little_number c (drop (cell_place (stream ++ more) t row k) (stream ++ more))) (same_column_width t k)
      ∙ ap (λ (p : ℕ). little_number (column_width stream t k) (drop p (stream ++ more))) place
      ∙ number-append stream more (column_width stream t k) (cell_place stream t row k) (omega (arith, lies))
      ∙ sym (cell_is stream t row k)

pub longer : LongerStream
longer stream more w = record {
  whole = still_whole stream more w;
  heaps = same_heaps stream more w;
  counts = same_count stream more w;
  cells = same_cell stream more w;
}
