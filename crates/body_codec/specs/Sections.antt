-- The sections behind the code, and the exception clauses in them (II.25.4.5, II.25.4.6). A list of bytes begins with the
-- body's header, and multiples of 4 are counted from there.
use Rattle.std.specs.Prelude.{◌≡◌, ℕ, zero, suc, ◌+◌, ◌*◌, ◌/◌, ◌%◌, ◌<◌, ◌≤◌, ◌==◌, max, nat_le, Bool, not, ◌&&◌, if◌then◌else◌, List, [], ◌∷◌, map, length, slice_index, slice_index_or}
use Rattle.std.specs.List.{flat_map, fold, range_with_len, list_any}
use Rattle.assembly_tree.specs.declared.body.Clause.{Clause}
use Rattle.assembly_tree.specs.declared.body.ClauseKind as handled
use Rattle.body_codec.specs.declared.decoding.sections.ClauseRow.{ClauseRow}
use Rattle.body_codec.specs.Instruction.{Piece, place}
use Rattle.body_codec.specs.Names.{Notation}
use Rattle.body_codec.specs.Header.{number_at, code_end, has_sections}

-- the first multiple of 4 from a place on
unfoldable pub padded : ℕ → ℕ
padded at = (at + 3) / 4 * 4

-- ---- a section at a place: its first byte has the kind in six bits, the flag 0x40 where it is fat and 0x80 where another follows

unfoldable pub section_kind : List ℕ → ℕ → ℕ
section_kind bytes at = slice_index bytes at % 64

unfoldable pub is_fat_section : List ℕ → ℕ → Bool
is_fat_section bytes at = slice_index bytes at / 64 % 2 == 1

unfoldable pub has_more : List ℕ → ℕ → Bool
has_more bytes at = slice_index bytes at / 128 % 2 == 1

-- the size that it says: one byte, in a fat section three
unfoldable pub said_size : List ℕ → ℕ → ℕ
said_size bytes at = if is_fat_section bytes at then number_at 3 (at + 1) bytes else number_at 1 (at + 1) bytes

-- a small clause has 12 bytes, a fat one 24
unfoldable pub clause_size : List ℕ → ℕ → ℕ
clause_size bytes at = if is_fat_section bytes at then 24 else 12

unfoldable pub clause_count : List ℕ → ℕ → ℕ
clause_count bytes at = said_size bytes at / clause_size bytes at

-- as many bytes as it says, and at least the 4 of its header and those of its clauses
unfoldable pub section_end : List ℕ → ℕ → ℕ
section_end bytes at = at + max (said_size bytes at) (4 + clause_count bytes at * clause_size bytes at)

-- it is a section of clauses, and all of it is there
unfoldable pub can_be_read : List ℕ → ℕ → Bool
can_be_read bytes at =
    nat_le (at + 4) (length bytes) && (section_kind bytes at == 1) && nat_le (section_end bytes at) (length bytes)

-- The places where sections stand from a place on: that place, and behind a section that can be read and says so the next.
-- Each has at least 4 bytes, so there are fewer than bytes.
abbrev pub sections_from : ℕ → List ℕ → ℕ → List ℕ
sections_from zero bytes at = at ∷ []
sections_from (suc more) bytes at =
    at ∷ (if can_be_read bytes at && has_more bytes at then sections_from more bytes (padded (section_end bytes at)) else [])

unfoldable pub sections : List ℕ → List ℕ
sections bytes = if has_sections bytes then sections_from (length bytes) bytes (padded (code_end bytes)) else []

-- one of them can't be read, which can only be the last
abbrev pub is_broken : List ℕ → Bool
is_broken bytes = list_any (λ at. not (can_be_read bytes at)) (sections bytes)

-- where the body ends
abbrev pub body_end : List ℕ → ℕ
body_end bytes = fold (λ end at. section_end bytes at) (code_end bytes) (sections bytes)

-- ---- clauses, as they stand

unfoldable pub small_row : List ℕ → ℕ → ClauseRow
small_row bytes at = record {
  kind = number_at 2 at bytes;
  try_offset = number_at 2 (at + 2) bytes;
  try_length = number_at 1 (at + 4) bytes;
  handler_offset = number_at 2 (at + 5) bytes;
  handler_length = number_at 1 (at + 7) bytes;
  class_or_filter = number_at 4 (at + 8) bytes;
}

unfoldable pub fat_row : List ℕ → ℕ → ClauseRow
fat_row bytes at = record {
  kind = number_at 4 at bytes;
  try_offset = number_at 4 (at + 4) bytes;
  try_length = number_at 4 (at + 8) bytes;
  handler_offset = number_at 4 (at + 12) bytes;
  handler_length = number_at 4 (at + 16) bytes;
  class_or_filter = number_at 4 (at + 20) bytes;
}

-- the clause of this number in a section
abbrev pub row_in : List ℕ → ℕ → ℕ → ClauseRow
row_in bytes at k =
    if is_fat_section bytes at then fat_row bytes (at + 4 + 24 * k) else small_row bytes (at + 4 + 12 * k)

-- those of a section
unfoldable pub rows_in : List ℕ → ℕ → List ClauseRow
rows_in bytes at = if can_be_read bytes at then map (row_in bytes at) (range_with_len 0 (clause_count bytes at)) else []

-- those of all sections that can be read, in order
abbrev pub clause_rows : List ℕ → List ClauseRow
clause_rows bytes = flat_map (rows_in bytes) (sections bytes)

-- ---- and as instruction numbers

-- These bytes of the code are the instructions from `first` to before `last`, at least one.
pub record IsRange (pieces : List Piece) (offset size first last : ℕ) : Type 0 where
  pub some : first < last
  pub inside : last ≤ length pieces
  pub begins : place pieces first ≡ offset
  pub ends : place pieces last ≡ offset + size

-- what is handled, where the handler begins at `handler`: 0 is a catch, 1 a filter, 2 a finally, 4 a fault
abbrev pub SpellsKind : Notation → List Piece → ClauseRow → ℕ → handled.ClauseKind → Type 0
SpellsKind w pieces row handler (handled.TheVariants.Catch owner) = (row.kind ≡ 0) × w.caught row.class_or_filter owner
SpellsKind w pieces row handler (handled.TheVariants.Filter at) =
    (row.kind ≡ 1) × (at < handler) × (place pieces at ≡ row.class_or_filter)
SpellsKind w pieces row handler handled.TheVariants.Finally = row.kind ≡ 2
SpellsKind w pieces row handler handled.TheVariants.Fault = row.kind ≡ 4

-- This row is this clause.
pub record SpellsClause (w : Notation) (pieces : List Piece) (row : ClauseRow) (clause : Clause) : Type 0 where
  pub try_range : IsRange pieces row.try_offset row.try_length clause.try_start clause.try_end
  pub handler_range : IsRange pieces row.handler_offset row.handler_length clause.handler_start clause.handler_end
  pub kind : SpellsKind w pieces row clause.handler_start clause.kind

-- These rows are these clauses.
pub record SpellsClauses (w : Notation) (pieces : List Piece) (rows : List ClauseRow) (clauses : List Clause) : Type 0 where
  pub count : length rows ≡ length clauses
  pub few : length rows ≤ 65535
  pub each : (k : ℕ) (r : ClauseRow) (c : Clause) → k < length clauses → SpellsClause w pieces (slice_index_or rows k r) (slice_index_or clauses k c)
