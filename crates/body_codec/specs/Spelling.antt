-- How the instructions of a body are spelled (III.1.2, III.1.7, III.1.9): the code is their spellings one after the other.
use Rattle.std.specs.Prelude.{◌≡◌, ℕ, ◌+◌, ◌<◌, ℤ, pos, ◌-ℤ◌, List, length, slice_index, slice_index_or}
use Rattle.std.specs.List.{All}
use Rattle.byteorder.specs.Endian.{little_number}
use Rattle.opcode_table.specs.declared.kind.OperandKind.{OperandKind}
use Rattle.opcode_table.specs.declared.kind.OperandKind.TheVariants as kinds
use Rattle.assembly_tree.specs.declared.body.Ins.{Ins}
use Rattle.assembly_tree.specs.declared.body.Operand as operand
use Rattle.body_codec.specs.Instruction.{Piece, IsWhole, bytes_of_pieces, place, kind, number, signed, displacement}
use Rattle.body_codec.specs.Names.{Notation}

-- what an operand holds
pub data Form : Type 0 where
  nothing : Form
  variable : Form
  integer : Form
  byte : Form
  real : Form
  target : Form
  targets : Form
  token : Form

abbrev pub form : OperandKind → Form
form kinds.Nothing = nothing
form kinds.Var8 = variable
form kinds.Var16 = variable
form kinds.Num8 = integer
form kinds.Num32 = integer
form kinds.Num64 = integer
form kinds.Byte = byte
form kinds.Real4 = real
form kinds.Real8 = real
form kinds.Branch8 = target
form kinds.Branch32 = target
form kinds.Switch = targets
form kinds.Method = token
form kinds.Field = token
form kinds.Of = token
form kinds.Text = token
form kinds.Token = token

-- A displacement of instruction `k` leads to instruction `t`: it is the sum of the lengths before its target minus the sum
-- of the lengths up to the next instruction.
pub record LeadsTo (pieces : List Piece) (k t : ℕ) (distance : ℤ) : Type 0 where
  pub there : t < length pieces
  pub distance_is : distance ≡ pos (place pieces t) -ℤ pos (place pieces (k + 1))

-- a number in two's complement, or for `unaligned.` without a sign
abbrev pub IsInteger : Form → List ℕ → ℤ → Type 0
IsInteger integer tail n = n ≡ signed tail
IsInteger byte tail n = n ≡ pos (number tail)
IsInteger _ tail n = ⊥

-- a token of this kind that stands for this value
pub record SpellsToken (w : Notation) (k : OperandKind) (tail : List ℕ) (value : operand.Operand) : Type 0 where
  pub formed : form k ≡ token
  pub named : w.operand k (number tail) value

-- how many displacements there are, and where each leads
pub record SpellsTargets (pieces : List Piece) (k : ℕ) (tail : List ℕ) (targets : List ℕ) : Type 0 where
  pub count : length targets ≡ little_number 4 tail
  pub each : (i : ℕ) → i < length targets → LeadsTo pieces k (slice_index targets i) (displacement kinds.Switch tail i)

-- These bytes, behind the opcode of instruction `k`, are this operand.
abbrev pub SpellsOperand : Notation → List Piece → ℕ → OperandKind → List ℕ → operand.Operand → Type 0
SpellsOperand w pieces k kind tail operand.TheVariants.Nothing = form kind ≡ nothing
SpellsOperand w pieces k kind tail (operand.TheVariants.Var n) = (form kind ≡ variable) × (n ≡ number tail)
SpellsOperand w pieces k kind tail (operand.TheVariants.Int n) = IsInteger (form kind) tail n
SpellsOperand w pieces k kind tail (operand.TheVariants.Real bits) = (form kind ≡ real) × (bits ≡ number tail)
SpellsOperand w pieces k kind tail (operand.TheVariants.Target t) = (form kind ≡ target) × LeadsTo pieces k t (signed tail)
SpellsOperand w pieces k kind tail (operand.TheVariants.Targets ts) = (form kind ≡ targets) × SpellsTargets pieces k tail ts
SpellsOperand w pieces k kind tail (operand.TheVariants.Method m) = SpellsToken w kind tail (operand.TheVariants.Method m)
SpellsOperand w pieces k kind tail (operand.TheVariants.Field f) = SpellsToken w kind tail (operand.TheVariants.Field f)
SpellsOperand w pieces k kind tail (operand.TheVariants.Of o) = SpellsToken w kind tail (operand.TheVariants.Of o)
SpellsOperand w pieces k kind tail (operand.TheVariants.Text units) = SpellsToken w kind tail (operand.TheVariants.Text units)

-- This piece is instruction `k`.
pub record SpellsIns (w : Notation) (pieces : List Piece) (k : ℕ) (piece : Piece) (ins : Ins) : Type 0 where
  pub op : piece.op ≡ ins.op
  pub operand : SpellsOperand w pieces k (kind piece.op) piece.tail ins.operand

-- These bytes are cut into these pieces.
pub record IsCut (bytes : List ℕ) (pieces : List Piece) : Type 0 where
  pub whole : bytes ≡ bytes_of_pieces pieces
  pub each : All IsWhole pieces

-- The pieces are these instructions.
pub record SpellsEach (w : Notation) (pieces : List Piece) (code : List Ins) : Type 0 where
  pub count : length pieces ≡ length code
  pub each : (k : ℕ) (p : Piece) (i : Ins) → k < length code → SpellsIns w pieces k (slice_index_or pieces k p) (slice_index_or code k i)

-- These bytes are this code, cut into these pieces.
pub record SpellsCode (w : Notation) (pieces : List Piece) (code : List Ins) (bytes : List ℕ) : Type 0 where
  pub cut : IsCut bytes pieces
  pub each : SpellsEach w pieces code
