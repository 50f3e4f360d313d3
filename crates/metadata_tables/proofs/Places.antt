-- Where rows lie in a stream: the tables' starts rise, and a row that lies before the next table's start
-- lies in the stream.
use Rattle.std.proofs.Common.{◌≡◌, ℕ, zero, suc, ◌+◌, ◌-◌, ◌*◌, ◌/◌, ◌<◌, ◌≤◌, List, length, set, drop, refl, sym, ◌∙◌, subst, arith, ⊎_elim, add-one}
use Rattle.std.specs.Prelude.{slice_index, slice_index_or}
use Rattle.std.proofs.Math.Nat.{le_refl, mul-le-mul_right, mul-div-le, lt-mul-div-succ, div-lt_iff_lt-mul}
use Rattle.std.proofs.lemmas.Bool.{cases_lt, cases_eq}
use Rattle.std.proofs.lemmas.List.{get_or-set_same, get_or-set_other, length-set}
use Rattle.metadata_tables.specs.Schema.{columns_of}
use Rattle.metadata_tables.specs.Stream.{header_size, row_count, heap_sizes, row_size, table_start, row_end, IsRow, width, column_place, column_width, cell_place, cell}
use Rattle.metadata_tables.specs.Faults.{IsWhole, IsRowFault}
use Rattle.metadata_tables.specs.Header.{IsHeaderOf, IsKnown}
use Rattle.metadata_tables.specs.Layout.{IsLayoutOf, IsIndexOf}
use Rattle.std.proofs.lemmas.List.Sums.{sum_by_more_le}
use Rattle.byteorder.specs.Endian.{little_number}
use Rattle.metadata_tables.specs.declared.schema.Column.TheVariants.{Number}
use Rattle.metadata_tables.specs.declared.header.Header.{Header}
use Rattle.metadata_tables.specs.declared.layout.RowLayout.{RowLayout}
use Rattle.metadata_tables.specs.declared.index.TableIndex.{TableIndex}
use Rattle.metadata_tables.proofs.Bits.{row_count_none}
use Rattle.metadata_tables.proofs.Table.{columns_past}

-- the tables below t are indexed, and t begins here
pub record IsIndexedUpto (stream : List ℕ) (t start : ℕ) (indexes : List TableIndex) : Type 0 where
  pub there : length indexes ≡ 45
  pub begins : start ≡ table_start stream t
  pub within : start ≤ length stream
  pub each : (u : ℕ) (other : TableIndex) → u < t → IsIndexOf stream u (slice_index_or indexes u other)

pub table_start_none : (stream : List ℕ) → table_start stream 0 ≡ header_size stream
unfolding table_start
table_start_none stream = refl

pub table_start_more : (stream : List ℕ) (t : ℕ) → table_start stream (t + 1) ≡ table_start stream t + row_count stream t * row_size stream t
unfolding table_start
table_start_more stream t = rw add-one refl

-- starts rise
pub table_start_le : (stream : List ℕ) (u t : ℕ) → u ≤ t → table_start stream u ≤ table_start stream t
table_start_le stream u zero h = let e : u ≡ 0 = omega arith in rw e (le_refl (table_start stream 0))
table_start_le stream u (suc t) h = ⊎_elim
    (λ below. let step = table_start_more stream t in
    let ih = table_start_le stream u t (omega (arith, below)) in
    let e : t + 1 ≡ suc t = omega arith in
    let next : table_start stream (suc t) ≡ table_start stream t + row_count stream t * row_size stream t = rw e at step in
    omega (arith, ih, next))
    (λ (at : suc t ≤ u). let e : u ≡ suc t = omega (arith, at, h) in rw e (le_refl (table_start stream (suc t))))
    (cases_lt u (suc t))

-- a row of a table before this start lies before it
pub row_end_le : (stream : List ℕ) (u t row : ℕ) → u < t → row ≤ row_count stream u → row_end stream u row ≤ table_start stream t
row_end_le stream u t row before there =
    let next = table_start_le stream (u + 1) t (omega (arith, before)) in
    let step = table_start_more stream u in
    let rows = mul-le-mul_right (row_size stream u) there in
    omega (arith, next, step, rows)

-- no table from 2D on has rows
pub rows_past : (stream : List ℕ) → IsKnown stream → (t : ℕ) → 45 ≤ t → row_count stream t ≡ 0
rows_past stream known t past = row_count_none stream t (λ bit. known.tables t (bit, columns_past t past))

-- where the last table ends in the stream, the stream is whole
pub whole : (stream : List ℕ) → IsKnown stream → table_start stream 45 ≤ length stream → IsWhole stream
whole stream known ends = record {
  header = known.header;
  tables = known.tables;
  rows = λ t row is. ⊎_elim
      (λ before. let e = row_end_le stream t 45 row before is.1 in omega (arith, e, ends))
      (λ past. let none = rows_past stream known t past in absurd (omega (arith, none, is.0, is.1)))
      (cases_lt t 45);
}

-- a layout by a header's counts is one by the stream's
pub layout_of : (stream : List ℕ) (header : Header) (t : ℕ) (layout : RowLayout) → IsHeaderOf stream header → IsLayoutOf (slice_index header.counts) header.heaps (columns_of t) layout → IsLayoutOf (row_count stream) (heap_sizes stream) (columns_of t) layout
layout_of stream header t layout is laid =
    let counts : slice_index header.counts ≡ row_count stream = λ i u. is.counts u i in
    let P : (ℕ → ℕ) → Type 0 = λ f. IsLayoutOf f (heap_sizes stream) (columns_of t) layout in
    subst P counts (rw is.heaps at laid)

pub size_of : (stream : List ℕ) (t : ℕ) (layout : RowLayout) → IsLayoutOf (row_count stream) (heap_sizes stream) (columns_of t) layout → layout.size ≡ row_size stream t
unfolding row_size
size_of stream t layout laid = laid.size

-- one table more
pub indexed_more : (stream : List ℕ) (t start : ℕ) (indexes : List TableIndex) (x : TableIndex) → IsIndexedUpto stream t start indexes → t < 45 → IsIndexOf stream t x → x.rows * x.layout.size ≤ length stream - start → IsIndexedUpto stream (t + 1) (start + x.rows * x.layout.size) (set indexes t x)
indexed_more stream t start indexes x upto inside is room =
    let size = size_of stream t x.layout is.layout in
    let step = table_start_more stream t in
    record {
      there = length-set indexes t x ∙ upto.there;
      begins = rw (step, ← upto.begins, ← is.rows, ← size) refl;
      within = omega (arith, room, upto.within);
      each = λ u other before. ⊎_elim
          (λ same. let e = get_or-set_same indexes t x other (omega (arith, inside, upto.there)) in rw same (rw e is))
          (λ apart. let e = get_or-set_other indexes t u x other apart in rw e (upto.each u other (omega (arith, before, apart))))
          (cases_eq u t);
    }

-- where a table's rows don't fit, the first row that is cut is one more than those that do
pub row_fault : (stream : List ℕ) (t start rows size : ℕ) (indexes : List TableIndex) → IsKnown stream → IsIndexedUpto stream t start indexes → rows ≡ row_count stream t → size ≡ row_size stream t → length stream - start < rows * size → IsRowFault stream (record { rule = 7; table = t; row = (length stream - start) / size + 1 })
row_fault stream t start rows size indexes known upto r s cut =
    let room : ℕ = length stream - start in
    let some : 0 < size = ⊎_elim (λ h. h) (λ h. let z : size ≡ 0 = omega arith in absurd (let none = rw z at cut in omega (arith, none))) (cases_lt 0 size) in
    let high = lt-mul-div-succ room some in
    let low = mul-div-le room size in
    let there : room / size < rows = (div-lt_iff_lt-mul some).1 cut in
    record {
      rule = refl;
      header = known.header;
      tables = known.tables;
      there = (omega arith, omega (arith, there, r));
      cut = rw (← s, ← upto.begins) (omega (arith, high, upto.within));
      first = λ u row is earlier. ⊎_elim
          (λ before. let e = row_end_le stream u t row before is.1 in omega (arith, e, upto.begins, upto.within))
          (λ here. let rows_there : row * size ≤ room / size * size = mul-le-mul_right size (omega (arith, here.1)) in
          let place : row_end stream u row ≡ start + row * size = rw (here.0, s, upto.begins) refl in
          omega (arith, place, rows_there, low, upto.within))
          earlier;
    }

-- a whole stream's header is known
pub known : (stream : List ℕ) → IsWhole stream → IsKnown stream
known stream w = record { header = w.header; tables = w.tables }

-- a table with rows is below 2D
pub table_below : (stream : List ℕ) (t row : ℕ) → IsWhole stream → IsRow stream t row → t < 45
table_below stream t row w is = ⊎_elim
    (λ below. below)
    (λ past. let none = rows_past stream (known stream w) t past in absurd (omega (arith, none, is.0, is.1)))
    (cases_lt t 45)

-- a column ends in its row
pub column_within : (stream : List ℕ) (t k : ℕ) → k < length (columns_of t) → column_place stream t k + column_width stream t k ≤ row_size stream t
unfolding column_place column_width row_size
column_within stream t k h =
    sum_by_more_le (width (row_count stream) (heap_sizes stream)) (columns_of t) k (Number 0) h

-- a cell lies in a whole stream
pub cell_lies : (stream : List ℕ) (t row k : ℕ) → IsWhole stream → IsRow stream t row → k < length (columns_of t) → cell_place stream t row k + column_width stream t k ≤ length stream
cell_lies stream t row k w is h =
    let e : row ≡ (row - 1) + 1 = omega (arith, is.0) in
    let ends = rw e at (w.rows t row is) in
    let last : ((row - 1) + 1) * row_size stream t ≡ (row - 1) * row_size stream t + row_size stream t = omega arith in
    omega (arith, ends, last, column_within stream t k h)

-- what an index says of a column
pub index_width : (stream : List ℕ) (t k : ℕ) (x : TableIndex) → IsIndexOf stream t x → k < length (columns_of t) → slice_index x.layout.widths k ≡ column_width stream t k
unfolding column_width
index_width stream t k x is h = is.layout.widths k h

pub index_place : (stream : List ℕ) (t row k : ℕ) (x : TableIndex) → IsIndexOf stream t x → k < length (columns_of t) → x.start + (row - 1) * x.layout.size + slice_index x.layout.places k ≡ cell_place stream t row k
unfolding column_place
index_place stream t row k x is h =
    rw (is.start, size_of stream t x.layout is.layout, is.layout.places k h) refl

pub cell_is : (stream : List ℕ) (t row k : ℕ) → cell stream t row k ≡ little_number (column_width stream t k) (drop (cell_place stream t row k) stream)
unfolding cell
cell_is stream t row k = refl

-- the same by the index
pub cell_room : (stream : List ℕ) (t row k size place : ℕ) (x : TableIndex) → IsWhole stream → IsRow stream t row → k < length (columns_of t) → IsIndexOf stream t x → size ≡ x.layout.size → place ≡ slice_index x.layout.places k → x.start + (row - 1) * size + place + slice_index x.layout.widths k ≤ length stream
cell_room stream t row k size place x w is h of s p =
    rw (s, p, index_place stream t row k x of h, index_width stream t k x of h) (cell_lies stream t row k w is h)

-- and the cell
pub cell_by_index : (stream : List ℕ) (t row k size place : ℕ) (x : TableIndex) → k < length (columns_of t) → IsIndexOf stream t x → size ≡ x.layout.size → place ≡ slice_index x.layout.places k → little_number (slice_index x.layout.widths k) (drop (x.start + (row - 1) * size + place) stream) ≡ cell stream t row k
cell_by_index stream t row k size place x h of s p =
    rw (s, p, index_place stream t row k x of h, index_width stream t k x of h) (sym (cell_is stream t row k))

-- a row of one stream and table is one of another name for them
pub row_at : (stream now : List ℕ) (t table row : ℕ) → stream ≡ now → t ≡ table → IsRow now table row → IsRow stream t row
row_at stream now t table row s e is = rw (s, e) is
