-- An instruction as it stands in a body: its opcode, and the bytes of its operand (III.1.2, III.1.9).
use Rattle.std.specs.Prelude.{◌≡◌, ℕ, ◌+◌, ◌*◌, ℤ, List, [], ◌∷◌, ◌++◌, length, take, drop, Option, None, Some}
use Rattle.std.specs.List.{flat_map}
use Rattle.byteorder.specs.Endian.{little_number, twos_complement}
use Rattle.opcode_table.specs.Opcodes.{bytes_of, kind_of}
use Rattle.opcode_table.specs.Sizes as sizes
use Rattle.opcode_table.specs.declared.op.Op.{Op}
use Rattle.opcode_table.specs.declared.kind.OperandKind.{OperandKind}
use Rattle.opcode_table.specs.declared.kind.OperandKind.TheVariants as kinds

-- an opcode, and the bytes behind it that are its operand
pub record Piece : Type 0 where
  pub op : Op
  pub tail : List ℕ

-- one byte, and a second where there is one
abbrev pub joined : ℕ → Option ℕ → List ℕ
joined first None = first ∷ []
joined first (Some second) = first ∷ second ∷ []

-- the bytes of an opcode
unfoldable pub opcode_bytes : Op → List ℕ
opcode_bytes op = joined (bytes_of op).0 (bytes_of op).1

-- what its operand is
unfoldable pub kind : Op → OperandKind
kind op = kind_of op

-- the number of these bytes, the lowest first, and the same in two's complement
abbrev pub number : List ℕ → ℕ
number bytes = little_number (length bytes) bytes

abbrev pub signed : List ℕ → ℤ
signed bytes = twos_complement (length bytes) (number bytes)

-- how many bytes an operand has: a switch has a count, and as many displacements of four bytes
abbrev pub operand_size : OperandKind → List ℕ → ℕ
operand_size kind tail = sizes.operand_size kind (little_number 4 tail)

-- the bytes of the instruction
abbrev pub piece_bytes : Piece → List ℕ
piece_bytes p = opcode_bytes p.op ++ p.tail

-- those of several, one after the other
abbrev pub bytes_of_pieces : List Piece → List ℕ
bytes_of_pieces pieces = flat_map piece_bytes pieces

-- its operand is neither cut nor too long
pub record IsWhole (p : Piece) : Type 0 where
  pub size : length p.tail ≡ operand_size (kind p.op) p.tail

-- where an instruction begins: behind those before it. At their number it is the end.
unfoldable pub place : List Piece → ℕ → ℕ
place pieces k = length (bytes_of_pieces (take k pieces))

-- ---- the displacements of branches and switches (III.1.7.2), each from the end of its instruction

abbrev pub target_count : OperandKind → List ℕ → ℕ
target_count kinds.Branch8 tail = 1
target_count kinds.Branch32 tail = 1
target_count kinds.Switch tail = little_number 4 tail
target_count _ tail = 0

abbrev pub displacement : OperandKind → List ℕ → ℕ → ℤ
displacement kinds.Switch tail i = twos_complement 4 (little_number 4 (drop (4 + 4 * i) tail))
displacement _ tail i = signed tail
