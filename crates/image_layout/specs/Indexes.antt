-- Indexes in rows that are written: each names a row, or an entry of a heap, that is there (ECMA-335 II.22, II.24.2.6).
use Rattle.std.specs.Prelude.{◌≡◌, ℕ, ◌+◌, ◌^◌, ◌<◌, ◌≤◌, ◌⊎◌, ⊤, List, [], ◌∷◌, Some, length}
use Rattle.metadata_tables.specs.CodedIndex.{packed}
use Rattle.metadata_tables.specs.Encoding.{rows_in, cell_of}
use Rattle.metadata_tables.specs.Indexes.{run_cell}
use Rattle.metadata_tables.specs.Schema.{columns_of}
use Rattle.metadata_tables.specs.Stream.{column_of}
use Rattle.metadata_tables.specs.declared.coded.Coded.{Coded}
use Rattle.metadata_tables.specs.declared.schema.Column.{Column}
use Rattle.metadata_tables.specs.declared.schema.Column.TheVariants.{Number, Strings, Guids, Blobs, Row, Run, Tagged}
use Rattle.image_tokens.specs.declared.references.References.{References}
use Rattle.image_members.specs.Pushing.{Tables}

-- an index of a heap: 0, where each heap has its empty entry, or one inside its bytes (II.24.2.3, II.24.2.4)
abbrev pub IsHeapIndex : List ℕ → ℕ → Type 0
IsHeapIndex bytes index = (index ≡ 0) ⊎ (index < length bytes)

-- an index of #GUID where it has one identifier (II.24.2.5)
abbrev pub IsGuidIndex : ℕ → Type 0
IsGuidIndex index = index ≤ 1

-- the coded index of a row that is there
pub record NamesRow (kind : Coded) (tables : Tables) (index : ℕ) : Type 0 where
  pub table : ℕ
  pub row : ℕ
  pub is : packed kind table row ≡ Some index
  pub there : row ≤ rows_in tables table

-- the cell of a run that begins at a row that is there, or one behind the last
pub record BeginsRun (tables : Tables) (table cell : ℕ) : Type 0 where
  pub row : ℕ
  pub is : cell ≡ run_cell (rows_in tables table) row
  pub there : row ≤ rows_in tables table + 1

-- a cell of a column leads nowhere or to what is there
abbrev pub IsIndexIn : References → Tables → Column → ℕ → Type 0
IsIndexIn r tables (Number bytes) cell = ⊤
IsIndexIn r tables (Strings nil) cell = IsHeapIndex r.heaps.strings.bytes cell
IsIndexIn r tables (Guids nil) cell = IsGuidIndex cell
IsIndexIn r tables (Blobs nil) cell = IsHeapIndex r.heaps.blobs.bytes cell
IsIndexIn r tables (Row table) cell = cell ≤ rows_in tables table
IsIndexIn r tables (Run table) cell = BeginsRun tables table cell
IsIndexIn r tables (Tagged kind nil) cell = (cell ≡ 0) ⊎ NamesRow kind tables cell

-- no table has too many rows, and the cells of all rows lead to what is there
pub record HasIndexesIn (r : References) (tables : Tables) : Type 0 where
  pub few : (table : ℕ) → rows_in tables table < 2 ^ 24
  pub each : (table row column : ℕ) → row < rows_in tables table → column < length (columns_of table)
      → IsIndexIn r tables (column_of table column) (cell_of tables table row column)

-- ---- the same, row by row

-- the cells of a row, one after another
abbrev pub AreIndexesIn : References → Tables → List Column → List ℕ → Type 0
AreIndexesIn r tables [] [] = ⊤
AreIndexesIn r tables [] (cell ∷ cells) = ⊥
AreIndexesIn r tables (column ∷ columns) [] = ⊥
AreIndexesIn r tables (column ∷ columns) (cell ∷ cells) = IsIndexIn r tables column cell × AreIndexesIn r tables columns cells
