-- The bytes of rows that are written: one piece after another.
use Rattle.std.specs.Prelude.{ℕ, zero, suc, ◌+◌, ◌^◌, ◌≡◌, ◌<◌, ◌⊎◌, nat_lt, List, [], ◌∷◌, ◌++◌, length, slice_index, slice_index_or, if◌then◌else◌}
use Rattle.byteorder.specs.Endian.{little_bytes}
use Rattle.metadata_tables.specs.Stream.{width, column_of}
use Rattle.metadata_tables.specs.Encoding.{rows_of}

-- the pieces 0, 1 and on, up to n of them
unfoldable pub joined : (ℕ → List ℕ) → ℕ → List ℕ
joined piece zero = []
joined piece (suc n) = joined piece n ++ piece n

-- a number of some bytes, the lowest first
unfoldable pub number_bytes : ℕ → ℕ → List ℕ
number_bytes bytes value = little_bytes bytes value

-- a number can be written as a cell of some bytes
abbrev pub FitsCell : ℕ → ℕ → Type 0
FitsCell bytes value = ((bytes ≡ 1) ⊎ ((bytes ≡ 2) ⊎ (bytes ≡ 4))) × (value < 256 ^ bytes)

-- a row, its cells of these widths
abbrev pub row_bytes : (ℕ → ℕ) → List ℕ → List ℕ
row_bytes widths cells = joined (λ k. number_bytes (widths k) (slice_index cells k)) (length cells)

-- all rows of a table
abbrev pub table_bytes : (ℕ → ℕ) → List (List ℕ) → List ℕ
table_bytes widths rows = joined (λ k. row_bytes widths (slice_index_or rows k [])) (length rows)

-- each cell of a row can be written
abbrev pub FitsRow : (ℕ → ℕ) → List ℕ → Type 0
FitsRow widths cells = (k : ℕ) → k < length cells → FitsCell (widths k) (slice_index cells k)

-- the tables below n that have rows, a bit for each
unfoldable pub mask_upto : (ℕ → ℕ) → ℕ → ℕ
mask_upto counts zero = 0
mask_upto counts (suc n) = mask_upto counts n + (if nat_lt 0 (counts n) then 2 ^ n else 0)

-- a row count, where there are rows
abbrev pub count_bytes : ℕ → List ℕ
count_bytes count = if nat_lt 0 count then number_bytes 4 count else []

-- the tables that the standard asks to be sorted, a bit for each
abbrev pub sorted_tables : ℕ
sorted_tables = 0x160023019A00

-- the header and the row counts
unfoldable pub header_bytes : (ℕ → ℕ) → ℕ → List ℕ
header_bytes counts heaps =
    (0 ∷ 0 ∷ 0 ∷ 0 ∷ 2 ∷ 0 ∷ heaps ∷ 1 ∷ []) ++ number_bytes 8 (mask_upto counts 0x2D) ++ number_bytes 8 sorted_tables
    ++ joined (λ table. count_bytes (counts table)) 0x2D

-- the widths of a table's columns
abbrev pub widths_of : (ℕ → ℕ) → ℕ → ℕ → ℕ → ℕ
widths_of counts heaps table column = width counts heaps (column_of table column)

-- the rows of all tables below n
abbrev pub body_bytes : (ℕ → ℕ) → ℕ → List (List (List ℕ)) → ℕ → List ℕ
body_bytes counts heaps tables n = joined (λ table. table_bytes (widths_of counts heaps table) (rows_of tables table)) n
