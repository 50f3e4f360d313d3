-- Why bytes are no body. Each fault stands only where none of those before it in the order of their definitions here does.
use Rattle.std.specs.Prelude.{◌≡◌, ℕ, ◌<◌, ◌≤◌, Bool, true, false, List, [], ◌∷◌, ◌++◌, length, slice_index_or, None, Some, Result, Err, ◌⊎◌}
use Rattle.std.specs.List.{All, HoldsAt}
use Rattle.opcode_table.specs.declared.op.Op.{Op}
use Rattle.type_terms.specs.declared.term.Owner.{Owner}
use Rattle.type_terms.specs.declared.term.SigType.{SigType}
use Rattle.assembly_tree.specs.declared.body.Operand as operand
use Rattle.body_codec.specs.declared.fault.BodyFault.{BodyFault}
use Rattle.body_codec.specs.declared.fault.BodyFault.TheVariants as faults
use Rattle.body_codec.specs.declared.decoding.sections.ClauseRow.{ClauseRow}
use Rattle.body_codec.specs.Instruction.{Piece, IsWhole, opcode_bytes, piece_bytes, bytes_of_pieces, place, kind, number, target_count, displacement}
use Rattle.body_codec.specs.Names.{NameMap, reading, takes_token, named}
use Rattle.body_codec.specs.Spelling.{LeadsTo, IsCut}
use Rattle.body_codec.specs.Header.{HasHeader, code_of, locals_token, SpellsLocals}
use Rattle.body_codec.specs.Sections.{is_broken, clause_rows, IsRange}

-- ---- the header isn't known, its code is empty or can't be read, or nothing is known of its locals

pub record IsKnown (names : NameMap) (bytes : List ℕ) : Type 0 where
  pub header : HasHeader bytes
  pub types : List SigType
  pub locals : SpellsLocals (reading names) (locals_token bytes) types

-- ---- an instruction isn't known, or is cut

-- Whole instructions end at `offset`, and no whole one begins there.
pub record StopsAt (code : List ℕ) (offset : ℕ) (rest : List ℕ) : Type 0 where
  pub pieces : List Piece
  pub whole : code ≡ bytes_of_pieces pieces ++ rest
  pub each : All IsWhole pieces
  pub at : offset ≡ length (bytes_of_pieces pieces)
  pub some : 0 < length rest
  pub stuck : (p : Piece) (more : List ℕ) → IsWhole p → rest ≡ piece_bytes p ++ more → ⊥

-- an opcode begins here, or the first byte of one stands alone
abbrev pub BeginsOpcode : List ℕ → Type 0
BeginsOpcode rest = ((op : Op) × (more : List ℕ) × (rest ≡ opcode_bytes op ++ more)) ⊎ (rest ≡ 0xFE ∷ [])

pub record IsUnknown (code : List ℕ) (offset : ℕ) : Type 0 where
  pub rest : List ℕ
  pub stops : StopsAt code offset rest
  pub unknown : BeginsOpcode rest → ⊥

pub record IsCutOff (code : List ℕ) (offset : ℕ) : Type 0 where
  pub rest : List ℕ
  pub stops : StopsAt code offset rest
  pub begins : BeginsOpcode rest

-- ---- a target isn't the start of an instruction

-- each displacement of instruction `k` leads to an instruction
abbrev pub HasTargets : List Piece → ℕ → Piece → Type 0
HasTargets pieces k p =
    (i : ℕ) → i < target_count (kind p.op) p.tail → (t : ℕ) × LeadsTo pieces k t (displacement (kind p.op) p.tail i)

-- one of them doesn't
abbrev pub LacksTarget : List Piece → ℕ → Piece → Type 0
LacksTarget pieces k p =
    (i : ℕ) × (i < target_count (kind p.op) p.tail) × ((t : ℕ) → LeadsTo pieces k t (displacement (kind p.op) p.tail i) → ⊥)

-- those of the first n instructions do
abbrev pub HaveTargets : List Piece → ℕ → Type 0
HaveTargets pieces n = (k : ℕ) (p : Piece) → k < n → HasTargets pieces k (slice_index_or pieces k p)

-- the least instruction with a bad target begins here
pub record IsAstray (pieces : List Piece) (offset : ℕ) : Type 0 where
  pub k : ℕ
  pub within : k < length pieces
  pub at : offset ≡ place pieces k
  pub before : HaveTargets pieces k
  pub lacks : HoldsAt (LacksTarget pieces k) pieces k

-- ---- a section or a clause is wrong

-- A filter begins before its handler. Nothing is asked of a caught type here.
abbrev pub HasKind : List Piece → ClauseRow → ℕ → Type 0
HasKind pieces row handler =
    (row.kind ≡ 0) ⊎ (((row.kind ≡ 1) × (at : ℕ) × (at < handler) × (place pieces at ≡ row.class_or_filter)) ⊎ ((row.kind ≡ 2) ⊎ (row.kind ≡ 4)))

-- A clause of known kind, whose ranges are instructions.
pub record IsClause (pieces : List Piece) (row : ClauseRow) : Type 0 where
  pub try_start : ℕ
  pub try_end : ℕ
  pub handler_start : ℕ
  pub handler_end : ℕ
  pub try_range : IsRange pieces row.try_offset row.try_length try_start try_end
  pub handler_range : IsRange pieces row.handler_offset row.handler_length handler_start handler_end
  pub kind : HasKind pieces row handler_start

-- the first n are
abbrev pub AreClauses : List Piece → List ClauseRow → ℕ → Type 0
AreClauses pieces rows n = (k : ℕ) (r : ClauseRow) → k < n → IsClause pieces (slice_index_or rows k r)

-- The first wrong one is clause `clause`: it is none, or stands where a section can't be read, or is one too many.
pub record IsWrongAt (pieces : List Piece) (rows : List ClauseRow) (broken : Bool) (clause : ℕ) : Type 0 where
  pub few : clause ≤ 65535
  pub there : clause ≤ length rows
  pub before : AreClauses pieces rows clause
  pub wrong : ((clause < length rows) × HoldsAt (λ row. IsClause pieces row → ⊥) rows clause)
      ⊎ (((clause ≡ length rows) × (broken ≡ true)) ⊎ ((clause ≡ 65535) × (65535 < length rows)))

-- no section and no clause is wrong
pub record HasClauses (pieces : List Piece) (bytes : List ℕ) : Type 0 where
  pub read : is_broken bytes ≡ false
  pub few : length (clause_rows bytes) ≤ 65535
  pub each : AreClauses pieces (clause_rows bytes) (length (clause_rows bytes))

-- ---- a token isn't known: first those of operands, then those of catches

abbrev pub IsUnnamed : NameMap → Piece → Type 0
IsUnnamed names p = (takes_token (kind p.op) ≡ true) × (named names (kind p.op) (number p.tail) ≡ None)

abbrev pub HasName : NameMap → Piece → Type 0
HasName names p = takes_token (kind p.op) ≡ true → (value : operand.Operand) × (named names (kind p.op) (number p.tail) ≡ Some value)

abbrev pub HaveNames : NameMap → List Piece → ℕ → Type 0
HaveNames names pieces n = (k : ℕ) (p : Piece) → k < n → HasName names (slice_index_or pieces k p)

abbrev pub IsUncaught : NameMap → ClauseRow → Type 0
IsUncaught names row = (row.kind ≡ 0) × (names.owners row.class_or_filter ≡ None)

abbrev pub Catches : NameMap → ClauseRow → Type 0
Catches names row = row.kind ≡ 0 → (owner : Owner) × (names.owners row.class_or_filter ≡ Some owner)

abbrev pub HaveCatches : NameMap → List ClauseRow → ℕ → Type 0
HaveCatches names rows n = (k : ℕ) (r : ClauseRow) → k < n → Catches names (slice_index_or rows k r)

-- the least instruction whose token isn't known begins here
pub record IsUnnamedAt (names : NameMap) (pieces : List Piece) (offset : ℕ) : Type 0 where
  pub k : ℕ
  pub within : k < length pieces
  pub at : offset ≡ place pieces k
  pub before : HaveNames names pieces k
  pub unnamed : HoldsAt (IsUnnamed names) pieces k

-- the handler of the first catch whose token isn't known begins here
pub record IsUncaughtAt (names : NameMap) (rows : List ClauseRow) (offset : ℕ) : Type 0 where
  pub k : ℕ
  pub within : k < length rows
  pub at : HoldsAt (λ row. offset ≡ row.handler_offset) rows k
  pub before : HaveCatches names rows k
  pub uncaught : HoldsAt (IsUncaught names) rows k

-- ---- all of them

-- Code that is cut into these pieces, whose branches lead to instructions.
pub record IsCode (bytes : List ℕ) (pieces : List Piece) : Type 0 where
  pub cut : IsCut (code_of bytes) pieces
  pub targets : HaveTargets pieces (length pieces)

-- The whole body is in order, up to the names of tokens.
pub record IsOutline (bytes : List ℕ) (pieces : List Piece) : Type 0 where
  pub code : IsCode bytes pieces
  pub clauses : HasClauses pieces bytes

-- The faults that don't hang on names, behind the header.
abbrev pub IsOutlineFault : List ℕ → BodyFault → Type 0
IsOutlineFault bytes (faults.Opcode offset) = IsUnknown (code_of bytes) offset
IsOutlineFault bytes (faults.Cut offset) = IsCutOff (code_of bytes) offset
IsOutlineFault bytes (faults.Target offset) = (pieces : List Piece) × IsCut (code_of bytes) pieces × IsAstray pieces offset
IsOutlineFault bytes (faults.Range clause) =
    (pieces : List Piece) × IsCode bytes pieces × IsWrongAt pieces (clause_rows bytes) (is_broken bytes) clause
IsOutlineFault bytes faults.Header = ⊥
IsOutlineFault bytes (faults.Token offset) = ⊥
IsOutlineFault bytes (faults.Far at) = ⊥
IsOutlineFault bytes faults.NoMemory = Unit {0}

-- an unknown token
abbrev pub IsTokenFault : NameMap → List ℕ → ℕ → Type 0
IsTokenFault names bytes offset =
    (pieces : List Piece) × IsOutline bytes pieces
    × (IsUnnamedAt names pieces offset ⊎ (HaveNames names pieces (length pieces) × IsUncaughtAt names (clause_rows bytes) offset))

-- The fault of bytes that spell no body with the names of a namer. Nothing is said of want of memory.
abbrev pub IsFault : NameMap → List ℕ → BodyFault → Type 0
IsFault names bytes faults.Header = IsKnown names bytes → ⊥
IsFault names bytes (faults.Opcode offset) = IsKnown names bytes × IsOutlineFault bytes (faults.Opcode offset)
IsFault names bytes (faults.Cut offset) = IsKnown names bytes × IsOutlineFault bytes (faults.Cut offset)
IsFault names bytes (faults.Target offset) = IsKnown names bytes × IsOutlineFault bytes (faults.Target offset)
IsFault names bytes (faults.Range clause) = IsKnown names bytes × IsOutlineFault bytes (faults.Range clause)
IsFault names bytes (faults.Token offset) = IsKnown names bytes × IsTokenFault names bytes offset
IsFault names bytes (faults.Far at) = ⊥
IsFault names bytes faults.NoMemory = Unit {0}

-- The same where every token is known.
abbrev pub IsFaultOfAll : List ℕ → BodyFault → Type 0
IsFaultOfAll bytes faults.Header = HasHeader bytes → ⊥
IsFaultOfAll bytes (faults.Opcode offset) = HasHeader bytes × IsOutlineFault bytes (faults.Opcode offset)
IsFaultOfAll bytes (faults.Cut offset) = HasHeader bytes × IsOutlineFault bytes (faults.Cut offset)
IsFaultOfAll bytes (faults.Target offset) = HasHeader bytes × IsOutlineFault bytes (faults.Target offset)
IsFaultOfAll bytes (faults.Range clause) = HasHeader bytes × IsOutlineFault bytes (faults.Range clause)
IsFaultOfAll bytes (faults.Token offset) = ⊥
IsFaultOfAll bytes (faults.Far at) = ⊥
IsFaultOfAll bytes faults.NoMemory = Unit {0}

-- A call answered this, or had no memory.
abbrev pub Answers : {X : Type 0} → Result X BodyFault → Result X BodyFault → Type 0
Answers result answer = (result ≡ answer) ⊎ (result ≡ Err faults.NoMemory)
