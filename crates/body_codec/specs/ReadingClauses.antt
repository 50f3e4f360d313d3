-- What the steps of `decode` find behind the code: sections, and clauses with their ranges.
use Rattle.std.specs.Prelude.{◌≡◌, ℕ, ◌+◌, ◌<◌, ◌≤◌, Bool, false, true, not, List, ◌++◌, map, length, ◌⊎◌}
use Rattle.std.specs.List.{All, flat_map, fold, list_any}
use Rattle.body_codec.specs.declared.fault.BodyFault.{BodyFault}
use Rattle.body_codec.specs.declared.fault.BodyFault.TheVariants as faults
use Rattle.body_codec.specs.declared.decoding.sections.ClauseRow.{ClauseRow}
use Rattle.body_codec.specs.declared.decoding.sections.Region.{Region}
use Rattle.body_codec.specs.declared.decoding.sections.Found.{Found}
use Rattle.body_codec.specs.declared.decoding.sections.Section.{Section}
use Rattle.body_codec.specs.declared.decoding.sections.Clauses.{Clauses}
use Rattle.body_codec.specs.Instruction.{Piece, place}
use Rattle.body_codec.specs.Sections.{can_be_read, section_end, is_fat_section, has_more, clause_count, sections_from, clause_rows, is_broken, body_end, rows_in, IsRange}
use Rattle.type_terms.specs.declared.term.SigType.{SigType}
use Rattle.body_codec.specs.Names.{NameMap, reading}
use Rattle.body_codec.specs.declared.decoding.outline.Outline.{Outline}
use Rattle.body_codec.specs.Header.{code_of, SpellsLocals}
use Rattle.body_codec.specs.Reading.{pieces_of, IsLayout}
use Rattle.body_codec.specs.Faults.{HaveTargets, IsWrongAt, IsUncaught, IsUncaughtAt}

-- The section at a place, which can be read.
pub record IsSection (bytes : List ℕ) (at : ℕ) (s : Section) : Type 0 where
  pub read : can_be_read bytes at ≡ true
  pub begins : s.at ≡ at
  pub ends : s.end ≡ section_end bytes at
  pub fat : s.fat ≡ is_fat_section bytes at
  pub more : s.more ≡ has_more bytes at
  pub count : s.count ≡ clause_count bytes at

-- the kind is known, and a filter begins at `filter`
abbrev pub HasFilter : List Piece → ClauseRow → ℕ → ℕ → Type 0
HasFilter pieces row handler filter =
    (row.kind ≡ 0) ⊎ (((row.kind ≡ 1) × (filter < handler) × (place pieces filter ≡ row.class_or_filter)) ⊎ ((row.kind ≡ 2) ⊎ (row.kind ≡ 4)))

-- The row has these ranges.
pub record IsRegion (pieces : List Piece) (row : ClauseRow) (r : Region) : Type 0 where
  pub try_range : IsRange pieces row.try_offset row.try_length r.try_start r.try_end
  pub handler_range : IsRange pieces row.handler_offset row.handler_length r.handler_start r.handler_end
  pub kind : HasFilter pieces row r.handler_start r.filter

abbrev pub IsFound : List Piece → Found → Type 0
IsFound pieces f = IsRegion pieces f.row f.region

abbrev pub rows_of : List Found → List ClauseRow
rows_of found = map (λ f. f.row) found

-- Clauses were found, and sections from a place on are still to be read.
pub record ReadsTo (bytes : List ℕ) (pieces : List Piece) (found : List Found) (at : ℕ) : Type 0 where
  pub fuel : ℕ
  pub enough : length bytes ≤ fuel + at
  pub rows : clause_rows bytes ≡ rows_of found ++ flat_map (rows_in bytes) (sections_from fuel bytes at)
  pub broken : is_broken bytes ≡ list_any (λ a. not (can_be_read bytes a)) (sections_from fuel bytes at)
  pub ends : (end : ℕ) → body_end bytes ≡ fold (λ e a. section_end bytes a) end (sections_from fuel bytes at)
  pub few : length found ≤ 65535
  pub each : All (IsFound pieces) found

-- All clauses were found.
pub record HasRead (bytes : List ℕ) (pieces : List Piece) (c : Clauses) : Type 0 where
  pub rows : clause_rows bytes ≡ rows_of c.found
  pub read : is_broken bytes ≡ false
  pub ends : body_end bytes ≡ c.end
  pub few : length c.found ≤ 65535
  pub each : All (IsFound pieces) c.found

-- A clause of a section is wrong, whatever follows.
abbrev pub IsSectionFault : List Piece → List ClauseRow → BodyFault → Type 0
IsSectionFault pieces rows (faults.Range clause) = (rest : List ClauseRow) (broken : Bool) → IsWrongAt pieces (rows ++ rest) broken clause
IsSectionFault pieces rows faults.NoMemory = Unit {0}
IsSectionFault pieces rows _ = ⊥

abbrev pub IsRangeFault : List ℕ → List Piece → BodyFault → Type 0
IsRangeFault bytes pieces (faults.Range clause) = IsWrongAt pieces (clause_rows bytes) (is_broken bytes) clause
IsRangeFault bytes pieces faults.NoMemory = Unit {0}
IsRangeFault bytes pieces _ = ⊥

-- why the kind of a clause can't be read
abbrev pub IsCatchAt : NameMap → ClauseRow → BodyFault → Type 0
IsCatchAt names row (faults.Token offset) = (offset ≡ row.handler_offset) × IsUncaught names row
IsCatchAt names row faults.NoMemory = Unit {0}
IsCatchAt names row _ = ⊥

-- the same for clauses
abbrev pub IsCatchFault : NameMap → List ClauseRow → BodyFault → Type 0
IsCatchFault names rows (faults.Token offset) = IsUncaughtAt names rows offset
IsCatchFault names rows faults.NoMemory = Unit {0}
IsCatchFault names rows _ = ⊥

-- why locals can't be read
abbrev pub IsLocalsFault : NameMap → ℕ → BodyFault → Type 0
IsLocalsFault names token faults.Header = (types : List SigType) → SpellsLocals (reading names) token types → ⊥
IsLocalsFault names token faults.NoMemory = Unit {0}
IsLocalsFault names token _ = ⊥

-- All steps up to the names of tokens.
pub record HasOutline (bytes : List ℕ) (o : Outline) : Type 0 where
  pub layout : IsLayout (code_of bytes) o.marks o.starts
  pub targets : HaveTargets (pieces_of (code_of bytes) o.marks) (length o.marks)
  pub clauses : HasRead bytes (pieces_of (code_of bytes) o.marks) o.clauses
