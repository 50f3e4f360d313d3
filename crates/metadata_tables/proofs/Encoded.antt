-- The stream of encoded rows, read back.
use Rattle.std.proofs.Common.{◌≡◌, ℕ, zero, suc, ◌+◌, ◌-◌, ◌*◌, ◌%◌, ◌^◌, ◌<◌, ◌≤◌, List, [], ◌∷◌, ◌++◌, length, take, drop, refl, sym, ap, ◌∙◌, arith, ⊎_elim}
use Rattle.std.specs.Prelude.{slice_index, slice_index_or}
use Rattle.std.specs.Int.{bit_at}
use Rattle.std.proofs.Math.Nat.{mod-eq_of_lt}
use Rattle.std.proofs.lemmas.Bool.{lt-ltb, le-ltb, cases_lt}
use Rattle.std.proofs.lemmas.List.{append_assoc, length-append, take_all, drop_at, get_or_past}
use Rattle.std.proofs.lemmas.List.Sums.{sum_by_more}
use Rattle.byteorder.specs.Endian.{little_number, little_bytes}
use Rattle.byteorder.specs.Numbers.{little_number-reads_back, length-bytes_low_first}
use Rattle.metadata_tables.specs.Schema.{columns_of}
use Rattle.metadata_tables.specs.Stream.{present, header_size, count_place, row_count, heap_sizes, width, columns_size, column_of, column_width, column_place, row_size, table_start, cell_place, cell}
use Rattle.metadata_tables.specs.Header.{IsKnown}
use Rattle.metadata_tables.specs.Encoding.{rows_of, rows_in, cell_of, AreRows, FitsWidths, FitsIndex, FitsNumber, Holds}
use Rattle.metadata_tables.specs.Bytes.{FitsRow, joined, number_bytes, row_bytes, table_bytes, mask_upto, count_bytes, sorted_tables, header_bytes, widths_of}
use Rattle.metadata_tables.specs.declared.schema.Column.{Column}
use Rattle.metadata_tables.specs.declared.schema.Column.TheVariants.{Number, Strings, Guids, Blobs, Row, Run, Tagged}
use Rattle.metadata_tables.proofs.Bits.{count_place_none, count_place_more, row_count_there, row_count_none, count_place_all}
use Rattle.metadata_tables.proofs.Joins.{joined_none, joined_more, joined_agree, joined_split}
use Rattle.metadata_tables.proofs.Masks.{has, has_some, has_none, mask_lt, bit_at-mask, bit_at-mask_past}
use Rattle.metadata_tables.proofs.Places.{whole, cell_is, table_start_none, table_start_more, table_start_le}
use Rattle.metadata_tables.proofs.Widths.{column_kind}

-- ---- numbers in a list of bytes

length-number : (w x : ℕ) → length (number_bytes w x) ≡ w
unfolding number_bytes
length-number w x = length-bytes_low_first 0 w x

-- a number is read where it was written
number_read : (pre post : List ℕ) (w x p : ℕ) → length pre ≡ p → x < 256 ^ w → little_number w (drop p (pre ++ (number_bytes w x ++ post))) ≡ x
unfolding number_bytes
number_read pre post w x p e h =
    ap (λ (s : List ℕ). little_number w s) (drop_at pre (little_bytes w x ++ post) p e) ∙ little_number-reads_back w x post h

five : (a b c d e : List ℕ) → a ++ b ++ c ++ d ++ e ≡ a ++ (b ++ (c ++ (d ++ e)))
five a b c d e = simp append_assoc

four : (a b c d e : List ℕ) → (a ++ (b ++ (c ++ d))) ++ e ≡ (a ++ b) ++ (c ++ (d ++ e))
four a b c d e = simp append_assoc

-- ---- the header

module _ (f : ℕ → ℕ) (heaps : ℕ) (body : List ℕ) (few : (t : ℕ) → f t < 2 ^ 24) (past : (t : ℕ) → 45 ≤ t → f t ≡ 0) where
  abbrev front : List ℕ
  front = 0 ∷ 0 ∷ 0 ∷ 0 ∷ 2 ∷ 0 ∷ heaps ∷ 1 ∷ []

  abbrev counts : ℕ → List ℕ
  counts t = count_bytes (f t)

  abbrev stream : List ℕ
  stream = header_bytes f heaps ++ body

  -- the 24 bytes before the row counts
  head : List ℕ
  head = front ++ number_bytes 8 (mask_upto f 45) ++ number_bytes 8 sorted_tables

  header_is : header_bytes f heaps ≡ head ++ joined counts 45
  unfolding header_bytes head
  header_is = refl

  length-head : length head ≡ 24
  unfolding head
  length-head =
      let a = length-append (front ++ number_bytes 8 (mask_upto f 45)) (number_bytes 8 sorted_tables) in
      let b = length-append front (number_bytes 8 (mask_upto f 45)) in
      omega (arith, a, b, length-number 8 (mask_upto f 45), length-number 8 sorted_tables)

  heaps_there : heap_sizes stream ≡ heaps
  unfolding header_bytes
  heaps_there = refl

  front_there : take 8 stream ≡ front
  unfolding header_bytes
  front_there = refl

  present_there : present stream ≡ mask_upto f 45
  unfolding present header_bytes
  present_there =
      let fits : mask_upto f 45 < 256 ^ 8 = omega (arith, mask_lt f 45) in
      let parts : stream ≡ front ++ (number_bytes 8 (mask_upto f 45) ++ (number_bytes 8 sorted_tables ++ (joined counts 45 ++ body))) = five front (number_bytes 8 (mask_upto f 45)) (number_bytes 8 sorted_tables) (joined counts 45) body in
      ap (λ (s : List ℕ). little_number 8 (drop 8 s)) parts ∙ number_read front (number_bytes 8 sorted_tables ++ (joined counts 45 ++ body)) 8 (mask_upto f 45) 8 refl fits

  length-counts : (t : ℕ) → length (counts t) ≡ 4 * has f t
  length-counts t = ⊎_elim
      (λ some. let e = lt-ltb 0 (f t) some in rw e (length-number 4 (f t)))
      (λ none. let e = le-ltb 0 (f t) none in rw e refl)
      (cases_lt 0 (f t))

  bits : (t : ℕ) → bit_at (present stream) t ≡ has f t
  bits t = rw present_there (⊎_elim
      (λ inside. bit_at-mask f t 45 inside)
      (λ out. bit_at-mask_past f t 45 out ∙ sym (has_none f t (let z = past t out in omega (arith, z))))
      (cases_lt t 45))

  -- where each row count stands
  count_at : (t : ℕ) → length (head ++ joined counts t) ≡ count_place stream t
  count_at zero =
      let l = length-append head (joined counts 0) in
      let n = ap length (joined_none counts) in
      let p = count_place_none stream in
      omega (arith, l, n, p, length-head)
  count_at (suc t) =
      let ih = count_at t in
      let e : t + 1 ≡ suc t = omega arith in
      let here = length-append head (joined counts t) in
      let all = length-append head (joined counts (t + 1)) in
      let more = ap length (joined_more counts t) ∙ length-append (joined counts t) (counts t) in
      let place = count_place_more stream t in
      rw (← e) (omega (arith, ih, here, all, more, place, bits t, length-counts t))

  counts_there : (t : ℕ) → row_count stream t ≡ f t
  counts_there t = ⊎_elim
      (λ some.
      let inside : t < 45 = ⊎_elim (λ h. h) (λ out. let z = past t out in absurd (omega (arith, z, some))) (cases_lt t 45) in
      let bit : bit_at (present stream) t ≡ 1 = bits t ∙ has_some f t some in
      let split = joined_split counts t 45 inside in
      let one : counts t ≡ number_bytes 4 (f t) = let e = lt-ltb 0 (f t) some in rw e refl in
      let parts : stream ≡ (head ++ joined counts t) ++ (number_bytes 4 (f t) ++ (split.0 ++ body)) =
      ap (λ (h : List ℕ). h ++ body) (header_is ∙ ap (λ (j : List ℕ). head ++ j) (split.1 ∙ ap (λ (c : List ℕ). joined counts t ++ (c ++ split.0)) one))
      ∙ four head (joined counts t) (number_bytes 4 (f t)) split.0 body in
      let small = few t in
      row_count_there stream t bit
      ∙ ap (λ (s : List ℕ). little_number 4 (drop (count_place stream t) s)) parts
      ∙ number_read (head ++ joined counts t) (split.0 ++ body) 4 (f t) (count_place stream t) (count_at t) (omega (arith, small)))
      (λ none.
      let zero' : f t ≡ 0 = omega (arith, none) in
      row_count_none stream t (λ bit. let nil = has_none f t none in omega (arith, bit, bits t, nil)) ∙ sym zero')
      (cases_lt 0 (f t))

  header_ends : length (header_bytes f heaps) ≡ header_size stream
  header_ends =
      let low : present stream % 2 ^ 45 ≡ present stream = rw present_there (mod-eq_of_lt (mask_lt f 45)) in
      ap length header_is ∙ count_at 45 ∙ count_place_all stream 45 low

-- ---- widths

-- a cell whose index fits and whose number fits can be written in its width
fits_width : (f : ℕ → ℕ) (heaps : ℕ) (column : Column) (value : ℕ) → FitsNumber column value → FitsIndex f heaps column value → value < 256 ^ width f heaps column
fits_width f heaps (Number bytes) value number index = number
fits_width f heaps (Strings nil) value number index = index
fits_width f heaps (Guids nil) value number index = index
fits_width f heaps (Blobs nil) value number index = index
fits_width f heaps (Row t) value number index = index
fits_width f heaps (Run t) value number index = index
fits_width f heaps (Tagged kind nil) value number index = index

all_fit : (tables : List (List (List ℕ))) (heaps : ℕ) → AreRows tables → FitsWidths tables heaps → (t r c : ℕ) → r < rows_in tables t → c < length (columns_of t) → cell_of tables t r c < 256 ^ width (rows_in tables) heaps (column_of t c)
all_fit tables heaps are fits t r c row column =
    let is = are.rows t r row in
    let count = is.cells_count in
    fits_width (rows_in tables) heaps (column_of t c) (cell_of tables t r c) (is.numbers c (omega (arith, column, count))) (fits t r c row column)

-- ---- rows

-- what a stream with these row counts and heap sizes says of its columns
module _ (stream : List ℕ) (f : ℕ → ℕ) (heaps : ℕ) (same : row_count stream ≡ f) (sizes : heap_sizes stream ≡ heaps) where
  row_size_is : (t : ℕ) → row_size stream t ≡ columns_size f heaps (columns_of t)
  unfolding row_size
  row_size_is t =
      ap (λ (h : ℕ). columns_size (row_count stream) h (columns_of t)) sizes
      ∙ ap (λ (g : ℕ → ℕ). columns_size g heaps (columns_of t)) same

  column_place_is : (t k : ℕ) → column_place stream t k ≡ columns_size f heaps (take k (columns_of t))
  unfolding column_place
  column_place_is t k =
      ap (λ (h : ℕ). columns_size (row_count stream) h (take k (columns_of t))) sizes
      ∙ ap (λ (g : ℕ → ℕ). columns_size g heaps (take k (columns_of t))) same

  column_width_is : (t k : ℕ) → column_width stream t k ≡ widths_of f heaps t k
  unfolding column_width
  column_width_is t k =
      ap (λ (h : ℕ). width (row_count stream) h (column_of t k)) sizes
      ∙ ap (λ (g : ℕ → ℕ). width g heaps (column_of t k)) same

module _ (f : ℕ → ℕ) (heaps t : ℕ) where
  abbrev cell_bytes : List ℕ → ℕ → List ℕ
  cell_bytes cells k = number_bytes (widths_of f heaps t k) (slice_index cells k)

  -- the first k cells of a row
  length-cells : (cells : List ℕ) (k : ℕ) → k ≤ length (columns_of t) → length (joined (cell_bytes cells) k) ≡ columns_size f heaps (take k (columns_of t))
  length-cells cells zero h = ap length (joined_none (cell_bytes cells))
  length-cells cells (suc k) h =
      let ih = length-cells cells k (omega (arith, h)) in
      let e : k + 1 ≡ suc k = omega arith in
      let more = ap length (joined_more (cell_bytes cells) k) ∙ length-append (joined (cell_bytes cells) k) (cell_bytes cells k) in
      let one = length-number (widths_of f heaps t k) (slice_index cells k) in
      let sum = sum_by_more (width f heaps) (columns_of t) k (Number 0) (omega (arith, h)) in
      rw (← e) (omega (arith, ih, more, one, sum))

  length-row : (cells : List ℕ) → length cells ≡ length (columns_of t) → length (row_bytes (widths_of f heaps t) cells) ≡ columns_size f heaps (columns_of t)
  length-row cells all =
      let e = length-cells cells (length cells) (omega (arith, all)) in
      e ∙ ap (columns_size f heaps) (take_all (length cells) (columns_of t) (omega (arith, all)))

  abbrev row_at : List (List ℕ) → ℕ → List ℕ
  row_at rows k = row_bytes (widths_of f heaps t) (slice_index_or rows k [])

  -- the first r rows of a table
  length-rows : (rows : List (List ℕ)) (r : ℕ) → ((k : ℕ) → k < length rows → length (slice_index_or rows k []) ≡ length (columns_of t)) → r ≤ length rows → length (joined (row_at rows) r) ≡ r * columns_size f heaps (columns_of t)
  length-rows rows zero all h = ap length (joined_none (row_at rows)) ∙ omega arith
  length-rows rows (suc r) all h =
      let ih = length-rows rows r all (omega (arith, h)) in
      let e : r + 1 ≡ suc r = omega arith in
      let more = ap length (joined_more (row_at rows) r) ∙ length-append (joined (row_at rows) r) (row_at rows r) in
      let one = length-row (slice_index_or rows r []) (all r (omega (arith, h))) in
      let product : (r + 1) * columns_size f heaps (columns_of t) ≡ r * columns_size f heaps (columns_of t) + columns_size f heaps (columns_of t) = omega arith in
      rw (← e) (omega (arith, ih, more, one, product))

-- ---- the whole stream

eight : (h j k l b t u v : List ℕ) → h ++ (j ++ ((k ++ ((l ++ (b ++ t)) ++ u)) ++ v)) ≡ (((h ++ j) ++ k) ++ l) ++ (b ++ (t ++ (u ++ v)))
eight h j k l b t u v = simp append_assoc

module _ (tables : List (List (List ℕ))) (heaps : ℕ) (are : AreRows tables) (fits : FitsWidths tables heaps) where
  abbrev f : ℕ → ℕ
  f = rows_in tables

  past : (t : ℕ) → 45 ≤ t → f t ≡ 0
  past t h = ap length (get_or_past tables t [] (omega (arith, h, are.all)))

  abbrev table_at : ℕ → List ℕ
  table_at t = table_bytes (widths_of f heaps t) (rows_of tables t)

  abbrev whole_stream : List ℕ
  whole_stream = header_bytes f heaps ++ joined table_at 45

  same : row_count whole_stream ≡ f
  same = λ i t. counts_there f heaps (joined table_at 45) are.counts past t i

  sizes : heap_sizes whole_stream ≡ heaps
  sizes = heaps_there f heaps (joined table_at 45) are.counts past

  alike : (t k : ℕ) → k < length (rows_of tables t) → length (slice_index_or (rows_of tables t) k []) ≡ length (columns_of t)
  alike t k h = (are.rows t k h).cells_count

  -- where each table begins
  start_at : (t : ℕ) → length (header_bytes f heaps ++ joined table_at t) ≡ table_start whole_stream t
  start_at zero =
      let l = length-append (header_bytes f heaps) (joined table_at 0) in
      let n = ap length (joined_none table_at) in
      let h = header_ends f heaps (joined table_at 45) are.counts past in
      let p = table_start_none whole_stream in
      omega (arith, l, n, h, p)
  start_at (suc t) =
      let ih = start_at t in
      let e : t + 1 ≡ suc t = omega arith in
      let here = length-append (header_bytes f heaps) (joined table_at t) in
      let all = length-append (header_bytes f heaps) (joined table_at (t + 1)) in
      let more = ap length (joined_more table_at t) ∙ length-append (joined table_at t) (table_at t) in
      let rows = length-rows f heaps t (rows_of tables t) (rows_in tables t) (alike t) (omega arith) in
      let size = row_size_is whole_stream f heaps same sizes t in
      let count = counts_there f heaps (joined table_at 45) are.counts past t in
      let place = table_start_more whole_stream t in
      let product : row_count whole_stream t * row_size whole_stream t ≡ rows_in tables t * columns_size f heaps (columns_of t) = rw (count, size) refl in
      rw (← e) (omega (arith, ih, here, all, more, rows, place, product))

  with_rows : (t : ℕ) → 0 < f t → t < 45
  with_rows t some = ⊎_elim (λ h. h) (λ out. let z = past t out in absurd (omega (arith, z, some))) (cases_lt t 45)

  -- a cell is read where it was written
  cells_there : (t r c : ℕ) → r < f t → c < length (columns_of t) → cell whole_stream t (suc r) c ≡ cell_of tables t r c
  cells_there t r c row column =
      let rows : List (List ℕ) = rows_of tables t in
      let cells : List ℕ = slice_index_or rows r [] in
      let tables_split = joined_split table_at t 45 (with_rows t (omega (arith, row))) in
      let rows_split = joined_split (row_at f heaps t rows) r (length rows) row in
      let count = alike t r row in
      let cells_split = joined_split (cell_bytes f heaps t cells) c (length cells) (omega (arith, column, count)) in
      let row_parts = rows_split.1 ∙ ap (λ (z : List ℕ). joined (row_at f heaps t rows) r ++ (z ++ rows_split.0)) cells_split.1 in
      let table_parts = tables_split.1 ∙ ap (λ (z : List ℕ). joined table_at t ++ (z ++ tables_split.0)) row_parts in
      let before : List ℕ = ((header_bytes f heaps ++ joined table_at t) ++ joined (row_at f heaps t rows) r) ++ joined (cell_bytes f heaps t cells) c in
      let after : List ℕ = cells_split.0 ++ (rows_split.0 ++ tables_split.0) in
      let parts : whole_stream ≡ before ++ (number_bytes (widths_of f heaps t c) (slice_index cells c) ++ after) =
      ap (λ (z : List ℕ). header_bytes f heaps ++ z) table_parts
      ∙ eight (header_bytes f heaps) (joined table_at t) (joined (row_at f heaps t rows) r) (joined (cell_bytes f heaps t cells) c) (number_bytes (widths_of f heaps t c) (slice_index cells c)) cells_split.0 rows_split.0 tables_split.0 in
      let a = length-append ((header_bytes f heaps ++ joined table_at t) ++ joined (row_at f heaps t rows) r) (joined (cell_bytes f heaps t cells) c) in
      let b = length-append (header_bytes f heaps ++ joined table_at t) (joined (row_at f heaps t rows) r) in
      let rows_before = length-rows f heaps t rows r (alike t) (omega (arith, row)) in
      let cells_before = length-cells f heaps t cells c (omega (arith, column)) in
      let size = row_size_is whole_stream f heaps same sizes t in
      let place = column_place_is whole_stream f heaps same sizes t c in
      let less : suc r - 1 ≡ r = omega arith in
      let rows_place : (suc r - 1) * row_size whole_stream t ≡ r * columns_size f heaps (columns_of t) = rw (less, size) refl in
      let at : length before ≡ cell_place whole_stream t (suc r) c = omega (arith, a, b, start_at t, rows_before, cells_before, rows_place, place) in
      cell_is whole_stream t (suc r) c
      ∙ ap (λ (w : ℕ). little_number w (drop (cell_place whole_stream t (suc r) c) whole_stream)) (column_width_is whole_stream f heaps same sizes t c)
      ∙ ap (λ (z : List ℕ). little_number (widths_of f heaps t c) (drop (cell_place whole_stream t (suc r) c) z)) parts
      ∙ number_read before after (widths_of f heaps t c) (slice_index cells c) (cell_place whole_stream t (suc r) c) at (all_fit tables heaps are fits t r c row column)

  ends : length whole_stream ≡ table_start whole_stream 45
  ends = start_at 45

  known : IsKnown whole_stream
  known = record {
    header = let first = table_start_none whole_stream in
        let rise = table_start_le whole_stream 0 45 (omega arith) in
        omega (arith, first, rise, ends);
    tables = λ t foreign. ⊎_elim
        (λ some. let columns = (are.rows t 0 some).known in let none = ap length foreign.1 in absurd (omega (arith, columns, none)))
        (λ none. let nil = has_none f t none in let bit = bits f heaps (joined table_at 45) are.counts past t in absurd (omega (arith, foreign.0, nil, bit)))
        (cases_lt 0 (f t));
  }

  pub encoded : Holds tables heaps whole_stream
  encoded = record {
    whole = whole whole_stream known (omega (arith, ends));
    ends = ends;
    front = front_there f heaps (joined table_at 45) are.counts past;
    tables_there = λ t. (
      λ there. ⊎_elim (λ some. some) (λ none. let nil = has_none f t none in let bit = bits f heaps (joined table_at 45) are.counts past t in absurd (omega (arith, there, nil, bit))) (cases_lt 0 (f t)),
      λ some. bits f heaps (joined table_at 45) are.counts past t ∙ has_some f t some,
    );
    counts = λ t. counts_there f heaps (joined table_at 45) are.counts past t;
    cells = cells_there;
  }

-- rows with these widths are rows with the columns' widths
pub table_bytes_agree : (widths : ℕ → ℕ) (f : ℕ → ℕ) (heaps t : ℕ) (rows : List (List ℕ)) → ((k : ℕ) → k < length rows → length (slice_index_or rows k []) ≡ length (columns_of t)) → ((k : ℕ) → k < length (columns_of t) → widths k ≡ widths_of f heaps t k) → table_bytes widths rows ≡ table_bytes (widths_of f heaps t) rows
table_bytes_agree widths f heaps t rows all same =
    joined_agree (λ k. row_bytes widths (slice_index_or rows k [])) (row_at f heaps t rows) (length rows) (λ r row.
    let cells : List ℕ = slice_index_or rows r [] in
    let count = all r row in
    joined_agree (λ k. number_bytes (widths k) (slice_index cells k)) (cell_bytes f heaps t cells) (length cells) (λ k h.
    ap (λ (w : ℕ). number_bytes w (slice_index cells k)) (same k (omega (arith, h, count)))))

-- and their cells can be written
pub row_fits : (tables : List (List (List ℕ))) (heaps : ℕ) (widths : ℕ → ℕ) (t r : ℕ) → AreRows tables → FitsWidths tables heaps → ((k : ℕ) → k < length (columns_of t) → widths k ≡ widths_of (rows_in tables) heaps t k) → r < rows_in tables t → FitsRow widths (slice_index_or (rows_of tables t) r [])
row_fits tables heaps widths t r are fits same row k h =
    let count = (are.rows t r row).cells_count in
    let column : k < length (columns_of t) = omega (arith, h, count) in
    let e = same k column in
    rw e (column_kind (rows_in tables) heaps t k column, all_fit tables heaps are fits t r k row column)
