-- What is kept of a stream's header.
use Rattle.std.specs.Prelude.{◌≡◌, ℕ, ◌≤◌, List, length, slice_index}
use Rattle.metadata_tables.specs.Stream.{heap_sizes, header_size, row_count}
use Rattle.metadata_tables.specs.Faults.{IsForeign}
use Rattle.metadata_tables.specs.declared.header.Header.{Header}

-- where the rows begin, the heap sizes and the row counts
pub record IsHeaderOf (stream : List ℕ) (header : Header) : Type 0 where
  pub start : header.start ≡ header_size stream
  pub heaps : header.heaps ≡ heap_sizes stream
  pub counts : (table : ℕ) → slice_index header.counts table ≡ row_count stream table

-- the header can be read, and each table that is present has columns here
pub record IsKnown (stream : List ℕ) : Type 0 where
  pub header : header_size stream ≤ length stream
  pub tables : (table : ℕ) → IsForeign stream table → ⊥
