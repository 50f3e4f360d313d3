-- The bytes of a body as they are written, piece by piece (II.25.4). A list of offsets says where each instruction begins,
-- with the end of the code last.
use Rattle.std.specs.Prelude.{◌≡◌, ℕ, suc, ◌+◌, ◌*◌, ◌-◌, ◌^◌, ◌<◌, ◌≤◌, ◌==◌, nat_lt, nat_le, ℤ, pos, ◌-ℤ◌, Bool, not, ◌&&◌, List, [], ◌∷◌, ◌++◌, length, map, take, slice_index, Option, None, Some, if◌then◌else◌}
use Rattle.std.specs.List.{flat_map, list_all, All}
use Rattle.std.specs.Int.{w64, cast_unsigned}
use Rattle.byteorder.specs.Endian.{little_bytes}
use Rattle.type_terms.specs.declared.term.Owner.{Owner}
use Rattle.type_terms.specs.declared.term.SigType.{SigType}
use Rattle.type_terms.specs.declared.reference.MethodRef.{MethodRef}
use Rattle.type_terms.specs.declared.reference.FieldRef.{FieldRef}
use Rattle.opcode_table.specs.declared.kind.OperandKind.{OperandKind}
use Rattle.opcode_table.specs.declared.kind.OperandKind.TheVariants as kinds
use Rattle.assembly_tree.specs.declared.body.Body.{Body}
use Rattle.assembly_tree.specs.declared.body.Clause.{Clause}
use Rattle.assembly_tree.specs.declared.body.ClauseKind as handled
use Rattle.assembly_tree.specs.declared.body.Ins.{Ins}
use Rattle.assembly_tree.specs.declared.body.Operand as operand
use Rattle.body_codec.specs.declared.decoding.sections.ClauseRow.{ClauseRow}
use Rattle.body_codec.specs.Instruction.{Piece, operand_size, kind, bytes_of_pieces}
use Rattle.body_codec.specs.Names.{TokenMap, token_of}
use Rattle.body_codec.specs.Sections.{padded}
use Rattle.body_codec.specs.Encoding.{FitsBytes, offset}

-- the lowest bytes of a number, the lowest first
unfoldable pub number_bytes : ℕ → ℕ → List ℕ
number_bytes size n = little_bytes size n

-- a number that isn't there counts as 0
abbrev pub or_zero : Option ℕ → ℕ
or_zero None = 0
or_zero (Some n) = n

-- each instruction begins where its offset says
pub record AreOffsets (code : List Ins) (offsets : List ℕ) : Type 0 where
  pub count : length offsets ≡ suc (length code)
  pub each : (k : ℕ) → k ≤ length code → slice_index offsets k ≡ offset code k

-- the maps of a numberer
abbrev pub token_map : (Owner → Option ℕ) → (MethodRef → Option ℕ) → (FieldRef → Option ℕ) → (List SigType → Option ℕ) → (List ℕ → Option ℕ) → TokenMap
token_map owners methods fields locals texts =
    record { owners = owners; methods = methods; fields = fields; locals = locals; texts = texts }

-- ---- instructions

-- the targets of an operand are below a number
abbrev pub AreWithin : ℕ → operand.Operand → Type 0
AreWithin count (operand.TheVariants.Target t) = t < count
AreWithin count (operand.TheVariants.Targets ts) = All (λ t. t < count) ts
AreWithin count _ = Unit {0}

-- how far it is from one offset to that of an instruction
abbrev pub far_from : List ℕ → ℕ → ℕ → ℤ
far_from offsets next t = pos (slice_index offsets t) -ℤ pos next

-- a signed number in two's complement
abbrev pub signed_bytes : ℕ → ℤ → List ℕ
signed_bytes size z = number_bytes size (cast_unsigned w64 z)

abbrev pub target_bytes : List ℕ → ℕ → List ℕ → List ℕ
target_bytes offsets next targets = flat_map (λ t. signed_bytes 4 (far_from offsets next t)) targets

-- an operand of a kind, which has this token if it has one, and behind which the next instruction begins at `next`
abbrev pub tail_of : ℕ → List ℕ → ℕ → OperandKind → operand.Operand → List ℕ
tail_of token offsets next kind operand.TheVariants.Nothing = []
tail_of token offsets next kind (operand.TheVariants.Var n) = number_bytes (operand_size kind []) n
tail_of token offsets next kind (operand.TheVariants.Int n) = signed_bytes (operand_size kind []) n
tail_of token offsets next kind (operand.TheVariants.Real bits) = number_bytes (operand_size kind []) bits
tail_of token offsets next kind (operand.TheVariants.Target t) = signed_bytes (operand_size kind []) (far_from offsets next t)
tail_of token offsets next kind (operand.TheVariants.Targets ts) = number_bytes 4 (length ts) ++ target_bytes offsets next ts
tail_of token offsets next kind (operand.TheVariants.Method m) = number_bytes 4 token
tail_of token offsets next kind (operand.TheVariants.Field f) = number_bytes 4 token
tail_of token offsets next kind (operand.TheVariants.Of o) = number_bytes 4 token
tail_of token offsets next kind (operand.TheVariants.Text units) = number_bytes 4 token

-- where it is a short branch, a signed byte holds its displacement
abbrev pub Reaches : List ℕ → ℕ → OperandKind → operand.Operand → Type 0
Reaches offsets next kinds.Branch8 (operand.TheVariants.Target t) = FitsBytes 1 (far_from offsets next t)
Reaches offsets next _ _ = Unit {0}

-- the token of what an operand names is a number of four bytes
abbrev pub HasToken : TokenMap → operand.Operand → Type 0
HasToken numbers value = or_zero (token_of numbers value) < 2 ^ 32

unfoldable pub piece_of : TokenMap → List ℕ → ℕ → Ins → Piece
piece_of numbers offsets k ins = record {
  op = ins.op;
  tail = tail_of (or_zero (token_of numbers ins.operand)) offsets (slice_index offsets (k + 1)) (kind ins.op) ins.operand;
}

-- those of some instructions, the first of which is number `k`
abbrev pub pieces_from : TokenMap → List ℕ → ℕ → List Ins → List Piece
pieces_from numbers offsets k [] = []
pieces_from numbers offsets k (ins ∷ rest) = piece_of numbers offsets k ins ∷ pieces_from numbers offsets (k + 1) rest

-- ---- the header

-- the token of a list of locals, or 0 where there are none
abbrev pub locals_number : (List SigType → Option ℕ) → List SigType → ℕ
locals_number numbers [] = 0
locals_number numbers (t ∷ ts) = or_zero (numbers (t ∷ ts))

-- the tiny header serves, where the code has `size` bytes
abbrev pub serves_tiny : ℕ → Body → Bool
serves_tiny size body =
    (body.bound == 8) && not body.init && (length body.locals == 0) && (length body.clauses == 0) && nat_lt size 64

-- the fat one: 3 with the flags 8 and 0x10, three words of four bytes, the bound, the size and the locals' token
abbrev pub fat_header : ℕ → ℕ → Body → List ℕ
fat_header locals size body =
    ((3 + (if length body.clauses == 0 then 0 else 8) + (if body.init then 16 else 0)) ∷ 0x30 ∷ [])
    ++ number_bytes 2 body.bound ++ number_bytes 4 size ++ number_bytes 4 locals

abbrev pub header_bytes : ℕ → ℕ → Body → List ℕ
header_bytes locals size body = if serves_tiny size body then (4 * size + 2) ∷ [] else fat_header locals size body

-- ---- clauses

abbrev pub kind_number : handled.ClauseKind → ℕ
kind_number (handled.TheVariants.Catch owner) = 0
kind_number (handled.TheVariants.Filter at) = 1
kind_number handled.TheVariants.Finally = 2
kind_number handled.TheVariants.Fault = 4

-- the token of what is caught, or the offset of the filter
abbrev pub class_or_filter : TokenMap → List ℕ → handled.ClauseKind → ℕ
class_or_filter numbers offsets (handled.TheVariants.Catch owner) = or_zero (numbers.owners owner)
class_or_filter numbers offsets (handled.TheVariants.Filter at) = slice_index offsets at
class_or_filter numbers offsets handled.TheVariants.Finally = 0
class_or_filter numbers offsets handled.TheVariants.Fault = 0

-- the bounds of a clause are below a number
pub record AreRangesWithin (count : ℕ) (c : Clause) : Type 0 where
  pub try_start : c.try_start < count
  pub try_end : c.try_end < count
  pub handler_start : c.handler_start < count
  pub handler_end : c.handler_end < count
  pub filter : (at : ℕ) → c.kind ≡ handled.TheVariants.Filter at → at < count

-- a clause in offsets
unfoldable pub row_of : TokenMap → List ℕ → Clause → ClauseRow
row_of numbers offsets c = record {
  kind = kind_number c.kind;
  try_offset = slice_index offsets c.try_start;
  try_length = slice_index offsets c.try_end - slice_index offsets c.try_start;
  handler_offset = slice_index offsets c.handler_start;
  handler_length = slice_index offsets c.handler_end - slice_index offsets c.handler_start;
  class_or_filter = class_or_filter numbers offsets c.kind;
}

unfoldable pub small_bytes : ClauseRow → List ℕ
small_bytes r =
    number_bytes 2 r.kind ++ number_bytes 2 r.try_offset ++ number_bytes 1 r.try_length ++ number_bytes 2 r.handler_offset
    ++ number_bytes 1 r.handler_length ++ number_bytes 4 r.class_or_filter

unfoldable pub fat_bytes : ClauseRow → List ℕ
fat_bytes r =
    number_bytes 4 r.kind ++ number_bytes 4 r.try_offset ++ number_bytes 4 r.try_length ++ number_bytes 4 r.handler_offset
    ++ number_bytes 4 r.handler_length ++ number_bytes 4 r.class_or_filter

-- the small form of a row serves
abbrev pub serves_small : ClauseRow → Bool
serves_small r =
    nat_lt r.try_offset (2 ^ 16) && nat_lt r.try_length (2 ^ 8) && nat_lt r.handler_offset (2 ^ 16) && nat_lt r.handler_length (2 ^ 8)

-- it serves for these rows, and for the section's size, which has one byte
abbrev pub all_small : List ClauseRow → Bool
all_small rows = nat_le (length rows) 20 && list_all serves_small rows

-- zeros up to a multiple of 4
abbrev pub padding : ℕ → List ℕ
padding at = take (padded at - at) (0 ∷ 0 ∷ 0 ∷ [])

-- a section: its kind with the flag 0x40 where it is fat, its size, and the clauses
abbrev pub section_bytes : Bool → List ClauseRow → List ℕ
section_bytes small rows =
    if small then (1 ∷ (4 + 12 * length rows) ∷ 0 ∷ 0 ∷ []) ++ flat_map small_bytes rows
    else (0x41 ∷ []) ++ number_bytes 3 (4 + 24 * length rows) ++ flat_map fat_bytes rows

-- what follows code that ends at a place: nothing, or padding and the section
abbrev pub tail_bytes : ℕ → List ClauseRow → List ℕ
tail_bytes at [] = []
tail_bytes at (r ∷ rs) = padding at ++ section_bytes (all_small (r ∷ rs)) (r ∷ rs)

-- ---- the body

abbrev pub code_bytes : TokenMap → List ℕ → List Ins → List ℕ
code_bytes numbers offsets code = bytes_of_pieces (pieces_from numbers offsets 0 code)

-- header and code
abbrev pub front_bytes : TokenMap → List ℕ → Body → List ℕ
front_bytes numbers offsets body =
    header_bytes (locals_number numbers.locals body.locals) (slice_index offsets (length body.code)) body
    ++ code_bytes numbers offsets body.code

unfoldable pub body_bytes : TokenMap → List ℕ → Body → List ℕ
body_bytes numbers offsets body =
    front_bytes numbers offsets body ++ tail_bytes (length (front_bytes numbers offsets body)) (map (row_of numbers offsets) body.clauses)
