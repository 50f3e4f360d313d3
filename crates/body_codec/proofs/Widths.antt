-- How many bytes an operand has that isn't a switch: its kind alone tells.
use Rattle.std.proofs.Common.{◌≡◌, ℕ, List, refl}
use Rattle.opcode_table.specs.Sizes as sizes
use Rattle.opcode_table.specs.declared.kind.OperandKind.{OperandKind}
use Rattle.opcode_table.specs.declared.kind.OperandKind.TheVariants as kinds
use Rattle.body_codec.specs.Instruction.{operand_size}

pub fixed_size : (kd : OperandKind) (tail : List ℕ) → (kd ≡ kinds.Switch → ⊥) → operand_size kd tail ≡ sizes.operand_size kd 0
fixed_size kinds.Switch tail other = absurd (other refl)
fixed_size _ tail other = refl
