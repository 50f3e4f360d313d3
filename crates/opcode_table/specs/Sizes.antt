-- How many bytes an instruction has in a body: those of its opcode (III.1.2), and those of its operand (III.1.9).
use Rattle.std.specs.Prelude.{ℕ, ◌+◌, ◌*◌, Option, None, Some}
use Rattle.opcode_table.specs.declared.kind.OperandKind.{OperandKind}
use Rattle.opcode_table.specs.declared.kind.OperandKind.TheVariants.{Nothing, Var8, Var16, Num8, Num32, Num64, Byte, Real4, Real8, Branch8, Branch32, Switch, Method, Field, Of, Text, Token}
use Rattle.opcode_table.specs.declared.op.Op.{Op}
use Rattle.opcode_table.specs.Opcodes.{bytes_of}

-- one byte, or 0xFE and a second one
abbrev pub bytes_in : ℕ × Option ℕ → ℕ
bytes_in (first, None) = 1
bytes_in (first, Some second) = 2

unfoldable pub opcode_size : Op → ℕ
opcode_size op = bytes_in (bytes_of op)

-- the bytes of an operand of this form: a switch has its count, and a displacement of four bytes for each of so many targets
abbrev pub operand_size : OperandKind → ℕ → ℕ
operand_size Nothing targets = 0
operand_size Var8 targets = 1
operand_size Var16 targets = 2
operand_size Num8 targets = 1
operand_size Num32 targets = 4
operand_size Num64 targets = 8
operand_size Byte targets = 1
operand_size Real4 targets = 4
operand_size Real8 targets = 8
operand_size Branch8 targets = 1
operand_size Branch32 targets = 4
operand_size Switch targets = 4 + 4 * targets
operand_size Method targets = 4
operand_size Field targets = 4
operand_size Of targets = 4
operand_size Text targets = 4
operand_size Token targets = 4
