-- What the bytes of a body say before any token has a name (II.25.4): the tokens that it names, as what, and how many
-- instructions, targets of switches and clauses it has.
use Rattle.std.specs.Prelude.{◌≡◌, ℕ, List, ◌++◌, length, map, if◌then◌else◌, Option, None, Some, sum_by}
use Rattle.std.specs.List.{filter_map}
use Rattle.byteorder.specs.Endian.{little_number}
use Rattle.opcode_table.specs.declared.kind.OperandKind.{OperandKind}
use Rattle.opcode_table.specs.declared.kind.OperandKind.TheVariants as kinds
use Rattle.body_codec.specs.Instruction.{Piece, kind, number}
use Rattle.body_codec.specs.Names.{takes_token}
use Rattle.body_codec.specs.Header.{HasHeader, locals_token}
use Rattle.body_codec.specs.Sections.{clause_rows}
use Rattle.body_codec.specs.Faults.{IsOutline}
use Rattle.body_codec.specs.NamedTokens.{caught_in, locals_in}
use Rattle.body_outlines.specs.declared.outlined.BodyOutline.{BodyOutline}
use Rattle.body_outlines.specs.declared.outlined.TokenUse.{TokenUse}

-- a token, and what the instruction wants of it (III.1.9)
abbrev pub token_use : OperandKind → ℕ → TokenUse
token_use kind token = record { kind = kind; token = token }

-- that of an instruction, where its operand is one
abbrev pub use_in : Piece → Option TokenUse
use_in p = if takes_token (kind p.op) then Some (token_use (kind p.op) (number p.tail)) else None

-- how many targets a switch has (III.3.66)
abbrev pub switch_targets : OperandKind → List ℕ → ℕ
switch_targets kinds.Switch tail = little_number 4 tail
switch_targets _ tail = 0

abbrev pub targets_in : Piece → ℕ
targets_in p = switch_targets (kind p.op) p.tail

-- The bytes begin with a body of which this is said: its header is known, its code is whole instructions that lead to
-- instructions, and its clauses are in order.
pub record Outlines (bytes : List ℕ) (o : BodyOutline) : Type 0 where
  pub header : HasHeader bytes
  pub pieces : List Piece
  pub outline : IsOutline bytes pieces
  pub locals : o.locals ≡ locals_token bytes
  pub operands : o.operands ≡ filter_map use_in pieces
  pub catches : o.catches ≡ filter_map caught_in (clause_rows bytes)
  pub instructions : o.instructions ≡ length pieces
  pub targets : o.targets ≡ sum_by targets_in pieces
  pub clauses : o.clauses ≡ length (clause_rows bytes)

-- the tokens that it names: of its locals, of its operands and of its catches
abbrev pub tokens_of : BodyOutline → List ℕ
tokens_of o = locals_in o.locals ++ (map (λ (u : TokenUse). u.token) o.operands ++ o.catches)
