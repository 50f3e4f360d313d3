-- Laws of streams and rows.
use Rattle.std.specs.Prelude.{◌≡◌, ℕ, ◌<◌, ◌++◌, List, [], ◌∷◌, length}
use Rattle.metadata_tables.specs.Schema.{columns_of}
use Rattle.metadata_tables.specs.Stream.{heap_sizes, row_count, cell, IsRow}
use Rattle.metadata_tables.specs.Faults.{IsWhole, IsFault}
use Rattle.metadata_tables.specs.Encoding.{FitsNumber, IsRowOf}
use Rattle.metadata_tables.specs.declared.fault.TableFault.{TableFault}
use Rattle.metadata_tables.specs.declared.schema.Column.{Column}

-- a stream that is whole says the same of its tables as another
pub record KeepsTables (before after : List ℕ) : Type 0 where
  pub whole : IsWhole after
  pub heaps : heap_sizes after ≡ heap_sizes before
  pub counts : (table : ℕ) → row_count after table ≡ row_count before table
  pub cells : (table row column : ℕ) → IsRow before table row → column < length (columns_of table)
      → cell after table row column ≡ cell before table row column

-- bytes behind the last row of a whole stream change nothing
abbrev pub LongerStream : Type 0
LongerStream = (stream more : List ℕ) → IsWhole stream → KeepsTables stream (stream ++ more)

-- a stream has one fault at most, and a whole stream has none
pub record OneFault : Type 0 where
  pub one : (stream : List ℕ) (fault other : TableFault) → IsFault stream fault → IsFault stream other → fault ≡ other
  pub none : (stream : List ℕ) (fault : TableFault) → IsWhole stream → IsFault stream fault → ⊥

-- each number fits its column, one after another
abbrev pub FitColumns : List Column → List ℕ → Type 0
FitColumns [] [] = Unit {0}
FitColumns [] (cell ∷ cells) = ⊥
FitColumns (column ∷ columns) [] = ⊥
FitColumns (column ∷ columns) (cell ∷ cells) = FitsNumber column cell × FitColumns columns cells

-- such numbers make a row
abbrev pub RowOfColumns : Type 0
RowOfColumns = (table : ℕ) (cells : List ℕ) → 0 < length cells → FitColumns (columns_of table) cells → IsRowOf table cells
