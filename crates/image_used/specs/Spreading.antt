-- Marks on used rows of reference tables, set one after the other, and the rows among them that wait: what they name isn't marked yet
-- (II.22).
use Rattle.std.specs.Prelude.{◌≡◌, ℕ, ◌+◌, ◌*◌, ◌<◌, ◌≤◌, ◌⊎◌, ◌↔◌, Bool, List, Some, Contains, length}
use Rattle.hash_places.specs.Slots.{place_of}
use Rattle.hash_places.specs.declared.slots.Slot.{Slot}
use Rattle.metadata_tables.specs.declared.coded.Coded.{Coded}
use Rattle.metadata_tables.specs.declared.schema.Column.{Column}
use Rattle.metadata_tables.specs.declared.schema.Column.TheVariants.{Tagged}
use Rattle.image_model.specs.Naming.{IsToken}
use Rattle.metadata_tables.specs.Stream.{cell, column_of}
use Rattle.image_model.specs.Rows.{Names}
use Rattle.image_model.specs.Streams.{tables_of}
use Rattle.image_model.specs.Tokens.{SignatureNames}
use Rattle.method_states.specs.Marks.{marks_in, IsMarked, HasPlace, HaveRoom, left_in}
use Rattle.method_states.specs.declared.row_marks.RowMarks.{RowMarks}
use Rattle.row_signatures.specs.Signed.{IndexHolds}
use Rattle.image_used.specs.declared.spread.RowAt.{RowAt}

-- ---- what names rows

abbrev pub IsRow : (table row : ℕ) → ℕ → ℕ → Type 0
IsRow table row t r = (t ≡ table) × (r ≡ row)

abbrev pub TokensName : List ℕ → ℕ → ℕ → Type 0
TokensName tokens t r = (token : ℕ) × Contains tokens token × IsToken token t r

-- a value in a column names a row by a coded index
pub record ColumnNames (column : Column) (value t r : ℕ) : Type 0 where
  pub kind : Coded
  pub nil : Bool
  pub coded : column ≡ Tagged kind nil
  pub names : Names kind value t r

-- the blob at an index, read as the signature of a row of a table, names a row
abbrev pub IndexNames : List ℕ → (table index : ℕ) → ℕ → ℕ → Type 0
IndexNames image table index t r = (token : ℕ) × IndexHolds image table index token × IsToken token t r

-- so does the signature of a row
abbrev pub SignatureLeads : List ℕ → (table row : ℕ) → ℕ → ℕ → Type 0
SignatureLeads image table row t r = (token : ℕ) × SignatureNames image table row token × IsToken token t r

-- a row is this one, and marked elsewhere
abbrev pub IsMarkedRow : RowMarks → (table row : ℕ) → ℕ → ℕ → Type 0
IsMarkedRow named table row t r = IsRow table row t r × IsMarked named t r

-- one of the first so many rows of a table is marked elsewhere
abbrev pub MarkedIn : RowMarks → (table count : ℕ) → ℕ → ℕ → Type 0
MarkedIn named table count t r = (t ≡ table) × (0 < r) × (r ≤ count) × IsMarked named t r

-- one of the first so many cells of a row names a row
abbrev pub CellsName : List ℕ → (table row count : ℕ) → ℕ → ℕ → Type 0
CellsName image table row count t r = (column : ℕ) × (column < count) × ColumnNames (column_of table column) (cell (tables_of image) table row column) t r

-- ---- marks

abbrev pub Waits : List RowAt → (table row : ℕ) → Type 0
Waits todo table row = Contains todo (record { table = table; row = row })

-- The rows that are named so are marked besides, where they have places; each new one waits.
pub record Spreads (old : RowMarks) (before : List RowAt) (new : RowMarks) (after : List RowAt) (Named : ℕ → ℕ → Type 0) : Type 0 where
  pub room : (t : ℕ) → length (marks_in new t) ≡ length (marks_in old t)
  pub marked : (t r : ℕ) → IsMarked new t r ↔ (IsMarked old t r ⊎ (Named t r × HasPlace old t r))
  pub waits : (t r : ℕ) → Waits before t r → Waits after t r
  pub fresh : (t r : ℕ) → IsMarked new t r → IsMarked old t r ⊎ Waits after t r
  pub only : (t r : ℕ) → Waits after t r → Waits before t r ⊎ IsMarked new t r
  pub left : left_in new + length after ≡ left_in old + length before

-- a number for each table and index
abbrev pub key : ℕ → ℕ → ℕ
key table index = index * 256 + table

-- there is a place for each row, and what is named by the signatures that were looked at is marked
pub record IsReady (image : List ℕ) (marks : RowMarks) (seen : List Slot) : Type 0 where
  pub room : HaveRoom image marks
  pub told : (table index place : ℕ) → table < 256 → place_of seen (key table index) ≡ Some place → (t r : ℕ) → IndexNames image table index t r → HasPlace marks t r → IsMarked marks t r
