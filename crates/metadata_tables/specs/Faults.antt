-- What makes bytes a stream of tables, and the first fault where they are none.
use Rattle.std.specs.Prelude.{◌≡◌, ℕ, ◌<◌, ◌≤◌, ◌⊎◌, List, [], length}
use Rattle.std.specs.Int.{bit_at}
use Rattle.metadata_tables.specs.Schema.{columns_of}
use Rattle.metadata_tables.specs.Stream.{present, header_size, row_end, IsRow}
use Rattle.metadata_tables.specs.declared.fault.TableFault.{TableFault}

-- a table is present
abbrev pub IsPresent : List ℕ → ℕ → Type 0
IsPresent stream table = bit_at (present stream) table ≡ 1

-- a table is present that has no columns here
abbrev pub IsForeign : List ℕ → ℕ → Type 0
IsForeign stream table = IsPresent stream table × (columns_of table ≡ [])

-- The header and the row counts can be read, each present table has columns here, and every row lies in
-- the stream.
pub record IsWhole (stream : List ℕ) : Type 0 where
  pub header : header_size stream ≤ length stream
  pub tables : (table : ℕ) → IsForeign stream table → ⊥
  pub rows : (table row : ℕ) → IsRow stream table row → row_end stream table row ≤ length stream

-- a row stands before another: in a table before its table, or before it in its table
abbrev pub IsEarlier : (table row later_table later_row : ℕ) → Type 0
IsEarlier table row later_table later_row = (table < later_table) ⊎ ((table ≡ later_table) × (row < later_row))

-- I6, the header or the row counts are cut: at table 00, row 0
pub record IsHeaderFault (stream : List ℕ) (fault : TableFault) : Type 0 where
  pub rule : fault.rule ≡ 6
  pub table : fault.table ≡ 0
  pub row : fault.row ≡ 0
  pub cut : length stream < header_size stream

-- I6, a table isn't in the profile: at the first such table, row 0
pub record IsProfileFault (stream : List ℕ) (fault : TableFault) : Type 0 where
  pub rule : fault.rule ≡ 6
  pub row : fault.row ≡ 0
  pub header : header_size stream ≤ length stream
  pub foreign : IsForeign stream fault.table
  pub first : (table : ℕ) → table < fault.table → IsForeign stream table → ⊥

-- I7, a row is cut: at the first such row
pub record IsRowFault (stream : List ℕ) (fault : TableFault) : Type 0 where
  pub rule : fault.rule ≡ 7
  pub header : header_size stream ≤ length stream
  pub tables : (table : ℕ) → IsForeign stream table → ⊥
  pub there : IsRow stream fault.table fault.row
  pub cut : length stream < row_end stream fault.table fault.row
  pub first : (table row : ℕ) → IsRow stream table row → IsEarlier table row fault.table fault.row → row_end stream table row ≤ length stream

-- the first fault of a stream
abbrev pub IsFault : List ℕ → TableFault → Type 0
IsFault stream fault = IsHeaderFault stream fault ⊎ (IsProfileFault stream fault ⊎ IsRowFault stream fault)
