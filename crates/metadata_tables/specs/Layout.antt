-- What the reading side keeps beside a stream, so that a cell's place takes no sum.
use Rattle.std.specs.Prelude.{◌≡◌, ℕ, ◌<◌, List, length, take, slice_index, slice_index_or}
use Rattle.metadata_tables.specs.Schema.{columns_of}
use Rattle.metadata_tables.specs.Stream.{width, columns_size, heap_sizes, row_count, table_start}
use Rattle.metadata_tables.specs.Faults.{IsWhole}
use Rattle.metadata_tables.specs.declared.schema.Column.{Column}
use Rattle.metadata_tables.specs.declared.schema.Column.TheVariants.{Number}
use Rattle.metadata_tables.specs.declared.layout.RowLayout.{RowLayout}
use Rattle.metadata_tables.specs.declared.index.TableIndex.{TableIndex}

-- the size of a row with these columns, and where its columns stand and how wide they are
pub record IsLayoutOf (counts : ℕ → ℕ) (heaps : ℕ) (columns : List Column) (layout : RowLayout) : Type 0 where
  pub there : length layout.widths ≡ 9
  pub size : layout.size ≡ columns_size counts heaps columns
  pub places : (k : ℕ) → k < length columns → slice_index layout.places k ≡ columns_size counts heaps (take k columns)
  pub widths : (k : ℕ) → k < length columns → slice_index layout.widths k ≡ width counts heaps (slice_index_or columns k (Number 0))

-- where a table's rows begin, how many there are, and how they are laid out
pub record IsIndexOf (stream : List ℕ) (table : ℕ) (index : TableIndex) : Type 0 where
  pub start : index.start ≡ table_start stream table
  pub rows : index.rows ≡ row_count stream table
  pub layout : IsLayoutOf (row_count stream) (heap_sizes stream) (columns_of table) index.layout

-- a whole stream beside the places of all its tables
pub record IsIndexed (stream : List ℕ) (indexes : List TableIndex) : Type 0 where
  pub whole : IsWhole stream
  pub there : length indexes ≡ 0x2D
  pub tables : (table : ℕ) (other : TableIndex) → table < 0x2D → IsIndexOf stream table (slice_index_or indexes table other)
