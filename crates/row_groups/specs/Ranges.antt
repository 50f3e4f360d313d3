-- Rows of a table in order by a column (II.22).
use Rattle.std.specs.Prelude.{ℕ, ◌-◌, ◌<◌, ◌≤◌, List}
use Rattle.metadata_tables.specs.Stream.{cell}
use Rattle.image_model.specs.Rows.{count_of}
use Rattle.image_model.specs.Streams.{tables_of}

-- the cells of a column, of an image and a row
abbrev pub cell_of : (table column : ℕ) → List ℕ → ℕ → ℕ
cell_of table column image row = cell (tables_of image) table row column

-- no row holds less in a column than the row above it
abbrev pub Ascends : List ℕ → (table column : ℕ) → Type 0
Ascends image table column = (row : ℕ) → 1 < row → row ≤ count_of image table → cell (tables_of image) table (row - 1) column ≤ cell (tables_of image) table row column
