-- The ranges of the numbers in instructions: those of a local's number, of an integer and of a real number's bits, whatever the
-- opcode (ECMA-335 III.1.7). In a definition a number is any; in a tree that a program holds it is in the range of its field.
use Rattle.std.specs.Prelude.{◌^◌, ◌<◌, ⊤, pos, neg_ℤ, ◌≤ℤ◌, ◌<ℤ◌, Option, None, Some}
use Rattle.std.specs.List.{AllByRecursion}
use Rattle.assembly_tree.specs.declared.body.Body.{Body}
use Rattle.assembly_tree.specs.declared.body.Ins.{Ins}
use Rattle.assembly_tree.specs.declared.body.Operand.{Operand}
use Rattle.assembly_tree.specs.declared.body.Operand.TheVariants as operand
use Rattle.assembly_tree.specs.declared.members.Method.{Method}

abbrev pub IsOperandInRange : Operand → Type 0
IsOperandInRange (operand.Var n) = n < 2 ^ 16
IsOperandInRange (operand.Int n) = (neg_ℤ (pos (2 ^ 63)) ≤ℤ n) × (n <ℤ pos (2 ^ 63))
IsOperandInRange (operand.Real bits) = bits < 2 ^ 64
IsOperandInRange operand.Nothing = ⊤
IsOperandInRange (operand.Target at) = ⊤
IsOperandInRange (operand.Targets at) = ⊤
IsOperandInRange (operand.Method m) = ⊤
IsOperandInRange (operand.Field f) = ⊤
IsOperandInRange (operand.Of o) = ⊤
IsOperandInRange (operand.Text units) = ⊤

abbrev pub IsInRange : Ins → Type 0
IsInRange i = IsOperandInRange i.operand

-- each instruction of a body, where there is one
abbrev pub IsStatedInRange : Option Body → Type 0
IsStatedInRange None = ⊤
IsStatedInRange (Some b) = AllByRecursion IsInRange b.code

abbrev pub IsMethodInRange : Method → Type 0
IsMethodInRange m = IsStatedInRange m.body
