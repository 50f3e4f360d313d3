-- The indexes of heaps that rows have are in use (ECMA-335 II.22, II.24.2.6).
use Rattle.std.specs.Prelude.{ℕ, ◌<◌, ◌≤◌, ⊤, List, Contains, length}
use Rattle.assembly_tree.specs.declared.assembly.Assembly.{Assembly}
use Rattle.metadata_tables.specs.Encoding.{rows_in, cell_of}
use Rattle.metadata_tables.specs.Schema.{columns_of}
use Rattle.metadata_tables.specs.Stream.{column_of}
use Rattle.metadata_tables.specs.declared.schema.Column.{Column}
use Rattle.metadata_tables.specs.declared.schema.Column.TheVariants.{Number, Strings, Guids, Blobs, Row, Run, Tagged}
use Rattle.image_tokens.specs.declared.references.References.{References}
use Rattle.image_rows.specs.Filled.{IsFilled}
use Rattle.image_members.specs.Pushing.{Tables}
use Rattle.image_members.specs.declared.classes.Class.{Class}

-- an index of a heap is in use; there is one identifier
abbrev pub IsInUse : References → Column → ℕ → Type 0
IsInUse r (Number bytes) cell = ⊤
IsInUse r (Strings nil) cell = Contains r.heaps.strings.used cell
IsInUse r (Guids nil) cell = cell ≤ 1
IsInUse r (Blobs nil) cell = Contains r.heaps.blobs.used cell
IsInUse r (Row table) cell = ⊤
IsInUse r (Run table) cell = ⊤
IsInUse r (Tagged kind nil) cell = ⊤

-- the indexes that the rows of a table have are
abbrev pub AreInUse : References → Tables → ℕ → Type 0
AreInUse r tables table =
    (row column : ℕ) → row < rows_in tables table → column < length (columns_of table) → IsInUse r (column_of table column) (cell_of tables table row column)

-- ---- the law

abbrev pub IndexesAreInUse : Type 0
IndexesAreInUse =
    (a : Assembly) (classes : List Class) (r : References) (tables : Tables) (code : List ℕ) → IsFilled a classes r tables code → (table : ℕ) → AreInUse r tables table
