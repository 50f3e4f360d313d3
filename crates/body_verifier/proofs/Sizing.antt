-- How many bytes a body's instructions take at most.
use Rattle.std.proofs.Common.{◌≡◌, ◌∙◌, refl, sym, ap, subst, ℕ, ◌+◌, ◌*◌, ◌-◌, ◌<◌, ◌≤◌, ◌^◌, arith, List, [], ◌∷◌, ◌++◌, length, map, take, drop, Option, None, Some}
use Rattle.std.specs.List.{sum_by}
use Rattle.std.proofs.lemmas.List.Sums.{sum_by-le-sum_by, sum_by-append}
use Rattle.opcode_table.specs.Opcodes as opcodes
use Rattle.opcode_table.specs.Sizes.{bytes_in, opcode_size}
use Rattle.opcode_table.specs.declared.kind.OperandKind.{OperandKind}
use Rattle.opcode_table.specs.declared.kind.OperandKind.TheVariants as kind
use Rattle.opcode_table.specs.declared.op.Op.{Op}
use Rattle.assembly_tree.specs.declared.body.Body.{Body}
use Rattle.assembly_tree.specs.declared.body.Ins.{Ins}
use Rattle.assembly_tree.specs.declared.body.Operand as operand
use Rattle.assembly_tree.specs.Weight.{body_weight, instruction_weight, operand_weight}
use Rattle.assembly_tree.specs.WellFormedBodies.{operand_size, operand_kind, targets_size, size_of}
use Rattle.body_verifier.proofs.Weighing.{IsLightBody}

bytes_low : (b : ℕ × Option ℕ) → bytes_in b ≤ 2
bytes_low (first, None) = omega arith
bytes_low (first, Some second) = omega arith

opcode_low : (op : Op) → opcode_size op ≤ 2
unfolding opcode_size
opcode_low op = bytes_low (opcodes.bytes_of op)

targets_low : (o : operand.Operand) → targets_size o ≤ 14 + operand_weight o
unfolding operand_weight
targets_low (operand.TheVariants.Targets at) = omega arith
targets_low operand.TheVariants.Nothing = omega arith
targets_low (operand.TheVariants.Var n) = omega arith
targets_low (operand.TheVariants.Int n) = omega arith
targets_low (operand.TheVariants.Real bits) = omega arith
targets_low (operand.TheVariants.Target at) = omega arith
targets_low (operand.TheVariants.Method m) = omega arith
targets_low (operand.TheVariants.Field f) = omega arith
targets_low (operand.TheVariants.Of o) = omega arith
targets_low (operand.TheVariants.Text units) = omega arith

operand_low : (k : OperandKind) (o : operand.Operand) → operand_size k o ≤ 14 + operand_weight o
operand_low kind.Nothing o = omega arith
operand_low kind.Var8 o = omega arith
operand_low kind.Var16 o = omega arith
operand_low kind.Num8 o = omega arith
operand_low kind.Num32 o = omega arith
operand_low kind.Num64 o = omega arith
operand_low kind.Byte o = omega arith
operand_low kind.Real4 o = omega arith
operand_low kind.Real8 o = omega arith
operand_low kind.Branch8 o = omega arith
operand_low kind.Branch32 o = omega arith
operand_low kind.Switch o = targets_low o
operand_low kind.Method o = omega arith
operand_low kind.Field o = omega arith
operand_low kind.Of o = omega arith
operand_low kind.Text o = omega arith
operand_low kind.Token o = omega arith

size_low : (i : Ins) → size_of i ≤ instruction_weight i
unfolding size_of instruction_weight
size_low i = let a = opcode_low i.op in let b = operand_low (operand_kind i.op) i.operand in omega arith

-- the code of a light body takes few bytes
pub short_code : (b : Body) → IsLightBody b → sum_by size_of b.code < 2 ^ 32
unfolding body_weight
short_code b h =
    let low = sum_by-le-sum_by size_of instruction_weight b.code size_low in
    let light = h.light in
    omega arith
