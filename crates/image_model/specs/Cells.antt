-- What is asked of the cells of a row by themselves: indexes within their range (I8) and entries of the heaps (I9); and of the
-- entry token (II.22, II.24.2.6).
use Rattle.std.specs.Prelude.{◌≡◌, ◌≢◌, ℕ, ◌+◌, ◌%◌, ◌^◌, ◌<◌, ◌≤◌, ◌⊎◌, true, List, [], length}
use Rattle.pe_layout.specs.CliHeader.{entry_token_of}
use Rattle.heaps.specs.Content.{HasText, HasBlob, HasGuid}
use Rattle.metadata_tables.specs.Schema.{columns_of}
use Rattle.metadata_tables.specs.Stream.{cell, column_of}
use Rattle.metadata_tables.specs.declared.coded.Coded.{Coded}
use Rattle.metadata_tables.specs.declared.schema.Column.{Column}
use Rattle.metadata_tables.specs.declared.schema.Column.TheVariants.{Number, Strings, Guids, Blobs, Row, Run, Tagged}
use Rattle.image_model.specs.Streams.{tables_of, strings_of, guids_of, blobs_of}
use Rattle.image_model.specs.Rows.{count_of, HasRow, Names, run_start}

-- the value in a cell of each column of a row meets a demand
abbrev pub EachCell : (List ℕ → Column → ℕ → Type 0) → List ℕ → ℕ → ℕ → Type 0
EachCell Demand image table row =
    (column : ℕ) → column < length (columns_of table) → Demand image (column_of table column) (cell (tables_of image) table row column)

-- ---- I8

-- a coded index names a row that is there
abbrev pub NamesRow : List ℕ → Coded → ℕ → Type 0
NamesRow image kind value = (table row : ℕ) × Names kind value table row × HasRow image table row

-- A simple index names a row. A run begins at a row or one behind the last. A coded index has a tag of a table and names a
-- row of it, or is 0 where it may be nil.
abbrev pub IsIndex : List ℕ → Column → ℕ → Type 0
IsIndex image (Row table) value = HasRow image table value
IsIndex image (Run table) value = (0 < run_start image table value) × (run_start image table value ≤ count_of image table + 1)
IsIndex image (Tagged kind nil) value = ((nil ≡ true) × (value ≡ 0)) ⊎ NamesRow image kind value
IsIndex image (Number bytes) value = Unit {0}
IsIndex image (Strings nil) value = Unit {0}
IsIndex image (Guids nil) value = Unit {0}
IsIndex image (Blobs nil) value = Unit {0}

abbrev pub HasIndexes : List ℕ → ℕ → ℕ → Type 0
HasIndexes image table row = EachCell IsIndex image table row

-- the entry point is none, or a method that is there
abbrev pub HasEntry : List ℕ → Type 0
HasEntry image = (entry_token_of image ≡ 0) ⊎ HasRow image 0x06 (entry_token_of image % 2 ^ 24)

-- ---- I9

-- A text ends and is UTF-8, and isn't empty where it is needed. A blob lies in its heap. So does an identifier, which may be
-- none where it isn't needed.
abbrev pub IsEntry : List ℕ → Column → ℕ → Type 0
IsEntry image (Strings nil) value = (text : List ℕ) × HasText (strings_of image) value text × ((nil ≡ true) ⊎ (text ≢ []))
IsEntry image (Guids nil) value = ((nil ≡ true) × (value ≡ 0)) ⊎ ((id : List ℕ) × HasGuid (guids_of image) value id)
IsEntry image (Blobs nil) value = (blob : List ℕ) × HasBlob (blobs_of image) value blob
IsEntry image (Number bytes) value = Unit {0}
IsEntry image (Row table) value = Unit {0}
IsEntry image (Run table) value = Unit {0}
IsEntry image (Tagged kind nil) value = Unit {0}

abbrev pub HasEntries : List ℕ → ℕ → ℕ → Type 0
HasEntries image table row = EachCell IsEntry image table row
