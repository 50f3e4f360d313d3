-- The kinds of operands by the forms of branches.
use Rattle.std.proofs.Common.{Bool, true, false}
use Rattle.opcode_table.specs.declared.kind.OperandKind.{OperandKind}
use Rattle.opcode_table.specs.declared.kind.OperandKind.TheVariants as kind

-- the form of the operand where a branch is long
abbrev pub long_kind : OperandKind → OperandKind
long_kind kind.Branch8 = kind.Branch32
long_kind k = k

-- the operand is a displacement in one byte
abbrev pub is_short_kind : OperandKind → Bool
is_short_kind kind.Branch8 = true
is_short_kind k = false
