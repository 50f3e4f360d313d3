-- What the steps of `decode` find: the header's fields, where each instruction stands, and which one stands at an offset.
use Rattle.std.specs.Prelude.{◌≡◌, ℕ, ◌+◌, ◌<◌, ◌≤◌, ◌^◌, List, ◌++◌, map, drop, take, length, slice_index, slice_index_or, ◌⊎◌}
use Rattle.std.specs.List.{All, slice_range}
use Rattle.body_codec.specs.declared.fault.BodyFault.{BodyFault}
use Rattle.body_codec.specs.declared.fault.BodyFault.TheVariants as faults
use Rattle.body_codec.specs.declared.decoding.header.Header.{Header}
use Rattle.body_codec.specs.declared.decoding.marks.Mark.{Mark}
use Rattle.body_codec.specs.Instruction.{Piece, IsWhole, piece_bytes, bytes_of_pieces, place}
use Rattle.body_codec.specs.Names.{NameMap}
use Rattle.body_codec.specs.Spelling.{IsCut}
use Rattle.body_codec.specs.Header.{HasHeader, header_size, code_size, code_end, bound_of, inits, has_sections, locals_token}
use Rattle.body_codec.specs.Faults.{BeginsOpcode, IsUnknown, IsCutOff, HasTargets, IsAstray, IsUnnamed, IsUnnamedAt}

pub record IsHeader (bytes : List ℕ) (h : Header) : Type 0 where
  pub header : HasHeader bytes
  pub small : code_size bytes < 2 ^ 32
  pub start : h.start ≡ header_size bytes
  pub end : h.end ≡ code_end bytes
  pub bound : h.bound ≡ bound_of bytes
  pub init : h.init ≡ inits bytes
  pub more : h.more ≡ has_sections bytes
  pub locals : h.locals ≡ locals_token bytes

-- the instruction at a mark
abbrev pub piece_of : List ℕ → Mark → Piece
piece_of code m = record { op = m.op; tail = slice_range code m.operand m.end }

abbrev pub pieces_of : List ℕ → List Mark → List Piece
pieces_of code marks = map (piece_of code) marks

-- A whole instruction stands at the mark.
pub record IsMark (code : List ℕ) (m : Mark) : Type 0 where
  pub whole : IsWhole (piece_of code m)
  pub spelled : drop m.start code ≡ piece_bytes (piece_of code m) ++ drop m.end code
  pub opened : m.start < m.operand
  pub ordered : m.operand ≤ m.end
  pub room : m.end ≤ length code

-- The code up to a place is the instructions at these marks.
pub record MarksTo (code : List ℕ) (marks : List Mark) (at : ℕ) : Type 0 where
  pub within : at ≤ length code
  pub whole : take at code ≡ bytes_of_pieces (pieces_of code marks)
  pub pieces : All IsWhole (pieces_of code marks)
  pub each : All (IsMark code) marks
  pub starts : (k : ℕ) (m : Mark) → k < length marks → (slice_index_or marks k m).start ≡ place (pieces_of code marks) k
  pub ends : (k : ℕ) (m : Mark) → k < length marks → (slice_index_or marks k m).end ≡ place (pieces_of code marks) (k + 1)

-- The code is the instructions at these marks.
pub record AreMarks (code : List ℕ) (marks : List Mark) : Type 0 where
  pub small : length code < 2 ^ 32
  pub cut : IsCut code (pieces_of code marks)
  pub each : All (IsMark code) marks
  pub starts : (k : ℕ) (m : Mark) → k < length marks → (slice_index_or marks k m).start ≡ place (pieces_of code marks) k
  pub ends : (k : ℕ) (m : Mark) → k < length marks → (slice_index_or marks k m).end ≡ place (pieces_of code marks) (k + 1)

-- no whole instruction begins here
abbrev pub BeginsNone : List ℕ → Type 0
BeginsNone rest = (p : Piece) (more : List ℕ) → IsWhole p → rest ≡ piece_bytes p ++ more → ⊥

-- Why no instruction stands at the front of `rest`, which is at an offset.
abbrev pub IsStop : ℕ → List ℕ → BodyFault → Type 0
IsStop at rest (faults.Opcode offset) = (offset ≡ at) × BeginsNone rest × (BeginsOpcode rest → ⊥)
IsStop at rest (faults.Cut offset) = (offset ≡ at) × BeginsNone rest × BeginsOpcode rest
IsStop at rest _ = ⊥

-- why code can't be cut into instructions
abbrev pub IsScanFault : List ℕ → BodyFault → Type 0
IsScanFault code (faults.Opcode offset) = IsUnknown code offset
IsScanFault code (faults.Cut offset) = IsCutOff code offset
IsScanFault code faults.NoMemory = Unit {0}
IsScanFault code _ = ⊥

-- the instruction that begins at an offset
pub record BeginsAt (pieces : List Piece) (offset t : ℕ) : Type 0 where
  pub there : t < length pieces
  pub at : place pieces t ≡ offset

-- For each offset of the code the number of the instruction among the first n that begins there, or 2 ^ 32 - 1.
pub record StartsTo (code : List ℕ) (marks : List Mark) (n : ℕ) (starts : List ℕ) : Type 0 where
  pub size : length starts ≡ length code
  pub each : (at : ℕ) → at < length code →
      ((slice_index starts at < n) × (place (pieces_of code marks) (slice_index starts at) ≡ at))
      ⊎ ((slice_index starts at ≡ 0xFFFFFFFF) × ((t : ℕ) → t < n → place (pieces_of code marks) t ≡ at → ⊥))

abbrev pub AreStarts : List ℕ → List Mark → List ℕ → Type 0
AreStarts code marks starts = StartsTo code marks (length marks) starts

-- both
pub record IsLayout (code : List ℕ) (marks : List Mark) (starts : List ℕ) : Type 0 where
  pub marked : AreMarks code marks
  pub started : AreStarts code marks starts

-- why a target is wrong
abbrev pub IsTargetFault : List Piece → BodyFault → Type 0
IsTargetFault pieces (faults.Target offset) = IsAstray pieces offset
IsTargetFault pieces _ = ⊥

-- The instruction that ends where a mark does has only targets that are instructions.
pub record IsAimed (pieces : List Piece) (m : Mark) (p : Piece) : Type 0 where
  pub k : ℕ
  pub ends : place pieces (k + 1) ≡ m.end
  pub targets : HasTargets pieces k p

-- why an operand can't be read, of an instruction that begins at an offset
abbrev pub IsTokenAt : NameMap → Piece → ℕ → BodyFault → Type 0
IsTokenAt names p at (faults.Token offset) = (offset ≡ at) × IsUnnamed names p
IsTokenAt names p at faults.NoMemory = Unit {0}
IsTokenAt names p at _ = ⊥

-- the same for code
abbrev pub IsNameFault : NameMap → List Piece → BodyFault → Type 0
IsNameFault names pieces (faults.Token offset) = IsUnnamedAt names pieces offset
IsNameFault names pieces faults.NoMemory = Unit {0}
IsNameFault names pieces _ = ⊥
