-- Rows to be written, and the stream that holds them.
use Rattle.std.specs.Prelude.{◌≡◌, ◌≢◌, ℕ, suc, ◌*◌, ◌^◌, ◌<◌, ◌↔◌, List, [], ◌∷◌, ◌++◌, length, take, drop, map, slice_index, slice_index_or}
use Rattle.std.specs.List.{range_with_len}
use Rattle.metadata_tables.specs.Schema.{columns_of}
use Rattle.metadata_tables.specs.Stream.{row_count, width, column_of, cell, table_start}
use Rattle.metadata_tables.specs.Faults.{IsPresent, IsWhole}
use Rattle.metadata_tables.specs.declared.schema.Column.{Column}
use Rattle.metadata_tables.specs.declared.schema.Column.TheVariants.{Number}

-- the rows of a table, each a list of its cells, in all rows by table
abbrev pub rows_of : List (List (List ℕ)) → ℕ → List (List ℕ)
rows_of tables table = slice_index_or tables table []

abbrev pub rows_in : List (List (List ℕ)) → ℕ → ℕ
rows_in tables table = length (rows_of tables table)

-- the cell of a row, both counted from 0
abbrev pub cell_of : List (List (List ℕ)) → (table row column : ℕ) → ℕ
cell_of tables table row column = slice_index (slice_index_or (rows_of tables table) row []) column

-- a row has been added at the end of a table, and no other table has changed
pub record AddsRow (old new : List (List (List ℕ))) (table : ℕ) (cells : List ℕ) : Type 0 where
  pub added : rows_of new table ≡ rows_of old table ++ cells ∷ []
  pub others : (other : ℕ) → other ≢ table → rows_of new other ≡ rows_of old other

-- a number fits a column of stated width
abbrev pub FitsNumber : Column → ℕ → Type 0
FitsNumber (Number bytes) value = value < 256 ^ bytes
FitsNumber _ value = Unit {0}

-- a row of a table: its number of cells, and each cell of a column of stated width within that width
pub record IsRowOf (table : ℕ) (cells : List ℕ) : Type 0 where
  pub known : 0 < length (columns_of table)
  pub cells_count : length cells ≡ length (columns_of table)
  pub numbers : (column : ℕ) → column < length cells → FitsNumber (column_of table column) (slice_index cells column)

-- all rows are rows of tables that are written here, and no table has 2 ^ 24 rows or more
pub record AreRows (tables : List (List (List ℕ))) : Type 0 where
  pub all : length tables ≡ 0x2D
  pub counts : (table : ℕ) → rows_in tables table < 2 ^ 24
  pub rows : (table row : ℕ) → row < rows_in tables table → IsRowOf table (slice_index_or (rows_of tables table) row [])

-- the first `count` pieces of `size` cells each
unfoldable pub pieces : ℕ → ℕ → List ℕ → List (List ℕ)
pieces size count cells = map (λ k. take size (drop (size * k) cells)) (range_with_len 0 count)

-- an index fits the width that follows from the row counts and the heap sizes; a column of stated width
-- asks nothing here
abbrev pub FitsIndex : (ℕ → ℕ) → ℕ → Column → ℕ → Type 0
FitsIndex counts heaps (Number bytes) value = Unit {0}
FitsIndex counts heaps column value = value < 256 ^ width counts heaps column

-- each index of each row does
abbrev pub FitsWidths : List (List (List ℕ)) → ℕ → Type 0
FitsWidths tables heaps =
    (table row column : ℕ) → row < rows_in tables table → column < length (columns_of table)
    → FitsIndex (rows_in tables) heaps (column_of table column) (cell_of tables table row column)

-- A stream holds these rows and no others: it can be opened, it ends with its last row, and each cell is
-- the row's. Its header is the standard's.
pub record Holds (tables : List (List (List ℕ))) (heaps : ℕ) (stream : List ℕ) : Type 0 where
  pub whole : IsWhole stream
  pub ends : length stream ≡ table_start stream 0x2D
  -- reserved, version 2.0, the heap sizes, reserved
  pub front : take 8 stream ≡ 0 ∷ 0 ∷ 0 ∷ 0 ∷ 2 ∷ 0 ∷ heaps ∷ 1 ∷ []
  pub tables_there : (table : ℕ) → IsPresent stream table ↔ (0 < rows_in tables table)
  pub counts : (table : ℕ) → row_count stream table ≡ rows_in tables table
  pub cells : (table row column : ℕ) → row < rows_in tables table → column < length (columns_of table)
      → cell stream table (suc row) column ≡ cell_of tables table row column
