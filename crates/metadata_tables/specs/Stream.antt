-- The stream `#~` of ECMA-335 II.24.2.6: its header, its tables, and the cells of their rows. Tables are
-- named by their numbers, rows are counted from 1 and columns from 0. A list of bytes is a whole stream.
use Rattle.std.specs.Prelude.{ℕ, zero, suc, ◌+◌, ◌*◌, ◌-◌, ◌%◌, ◌^◌, ◌<◌, ◌≤◌, ◌==◌, nat_lt, List, drop, take, slice_index, slice_index_or, sum_by, if◌then◌else◌}
use Rattle.std.specs.Int.{bit_at}
use Rattle.std.specs.Int.RustNames.{count_ones}
use Rattle.std.specs.List.{list_all}
use Rattle.byteorder.specs.Endian.{little_number}
use Rattle.metadata_tables.specs.CodedIndex.{tag_bits, tags}
use Rattle.metadata_tables.specs.Schema.{columns_of}
use Rattle.metadata_tables.specs.declared.schema.Column.{Column}
use Rattle.metadata_tables.specs.declared.schema.Column.TheVariants.{Number, Strings, Guids, Blobs, Row, Run, Tagged}

-- the byte of heap sizes
abbrev pub heap_sizes : List ℕ → ℕ
heap_sizes stream = slice_index stream 6

-- the tables that are present, a bit for each
unfoldable pub present : List ℕ → ℕ
present stream = little_number 8 (drop 8 stream)

-- 24 bytes, and one row count of 4 bytes for each present table
unfoldable pub header_size : List ℕ → ℕ
header_size stream = 24 + 4 * count_ones (present stream)

-- where a present table's row count stands, behind those of the present tables with lower numbers
unfoldable pub count_place : List ℕ → ℕ → ℕ
count_place stream table = 24 + 4 * count_ones (present stream % 2 ^ table)

-- how many rows a table has: none, where it isn't present
unfoldable pub row_count : List ℕ → ℕ → ℕ
row_count stream table =
    if bit_at (present stream) table == 1 then little_number 4 (drop (count_place stream table) stream) else 0

-- ---- widths: they follow from the tables' row counts and the byte of heap sizes

-- 4 bytes where this bit of the heap sizes is set, else 2
abbrev pub heap_width : ℕ → ℕ → ℕ
heap_width heaps bit = if bit_at heaps bit == 1 then 4 else 2

-- 2 bytes where a table has fewer than 2 ^ 16 rows, else 4
abbrev pub simple_width : (ℕ → ℕ) → ℕ → ℕ
simple_width counts table = if nat_lt (counts table) (2 ^ 16) then 2 else 4

-- 2 bytes where each of the tables has fewer rows than the bits beside the tag can tell, else 4
abbrev pub coded_width : (ℕ → ℕ) → ℕ → List (ℕ × ℕ) → ℕ
coded_width counts bits pairs = if list_all (λ pair. nat_lt (counts pair.0) (2 ^ (16 - bits))) pairs then 2 else 4

abbrev pub width : (ℕ → ℕ) → ℕ → Column → ℕ
width counts heaps (Number bytes) = bytes
width counts heaps (Strings nil) = heap_width heaps 0
width counts heaps (Guids nil) = heap_width heaps 1
width counts heaps (Blobs nil) = heap_width heaps 2
width counts heaps (Row table) = simple_width counts table
width counts heaps (Run table) = simple_width counts table
width counts heaps (Tagged kind nil) = coded_width counts (tag_bits kind) (tags kind)

-- how many bytes these columns take
abbrev pub columns_size : (ℕ → ℕ) → ℕ → List Column → ℕ
columns_size counts heaps columns = sum_by (width counts heaps) columns

-- ---- places

-- how many bytes a row of a table has
unfoldable pub row_size : List ℕ → ℕ → ℕ
row_size stream table = columns_size (row_count stream) (heap_sizes stream) (columns_of table)

-- where a table's rows begin: behind the header and the rows of all tables with lower numbers
unfoldable pub table_start : List ℕ → ℕ → ℕ
table_start stream zero = header_size stream
table_start stream (suc table) = table_start stream table + row_count stream table * row_size stream table

-- where a row ends
abbrev pub row_end : List ℕ → ℕ → ℕ → ℕ
row_end stream table row = table_start stream table + row * row_size stream table

-- the column of a table
abbrev pub column_of : ℕ → ℕ → Column
column_of table column = slice_index_or (columns_of table) column (Number 0)

-- how many bytes a column of a table has
unfoldable pub column_width : List ℕ → ℕ → ℕ → ℕ
column_width stream table column = width (row_count stream) (heap_sizes stream) (column_of table column)

-- where a column stands in its row, behind the columns before it
unfoldable pub column_place : List ℕ → ℕ → ℕ → ℕ
column_place stream table column =
    columns_size (row_count stream) (heap_sizes stream) (take column (columns_of table))

-- where a cell stands: behind the rows before its row and the columns before it
abbrev pub cell_place : List ℕ → ℕ → ℕ → ℕ → ℕ
cell_place stream table row column = row_end stream table (row - 1) + column_place stream table column

-- the number in a cell
unfoldable pub cell : List ℕ → ℕ → ℕ → ℕ → ℕ
cell stream table row column =
    little_number (column_width stream table column) (drop (cell_place stream table row column) stream)

-- there is such a row
abbrev pub IsRow : List ℕ → ℕ → ℕ → Type 0
IsRow stream table row = (0 < row) × (row ≤ row_count stream table)
