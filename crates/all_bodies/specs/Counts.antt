-- How much an assembly declares (ECMA-335 II.10, II.15).
use Rattle.std.specs.Prelude.{ℕ, ◌+◌, List, length, sum, sum_by, Option, None, Some}
use Rattle.assembly_tree.specs.declared.assembly.Assembly.{Assembly}
use Rattle.assembly_tree.specs.declared.body.Body.{Body}
use Rattle.assembly_tree.specs.declared.members.Method.{Method}
use Rattle.assembly_tree.specs.declared.typedef.TypeDef.{TypeDef}
use Rattle.assembly_tree.specs.declared.typedef.TypeDef.TheOpen.{TypeDef-F}
use Rattle.assembly_tree.specs.declared.typedef.TypeDef.TheFolds.{fold-TypeDef}
use Rattle.assembly_tree.specs.Nesting.{types_in}

abbrev pub bodies : Option Body → ℕ
bodies None = 0
bodies (Some b) = 1

abbrev pub instructions : Option Body → ℕ
instructions None = 0
instructions (Some b) = length b.code

-- ---- a type and those that it nests

abbrev pub body_step : TypeDef-F ℕ → ℕ
body_step t = sum_by (λ (m : Method). bodies m.body) t.methods + sum t.nested

abbrev pub instruction_step : TypeDef-F ℕ → ℕ
instruction_step t = sum_by (λ (m : Method). instructions m.body) t.methods + sum t.nested

abbrev pub bodies_in : TypeDef → ℕ
bodies_in t = fold-TypeDef ℕ body_step t

abbrev pub instructions_in : TypeDef → ℕ
instructions_in t = fold-TypeDef ℕ instruction_step t

-- the types of an assembly, the methods with a body, and the instructions in their bodies
abbrev pub class_count : Assembly → ℕ
class_count a = sum_by types_in a.types

abbrev pub body_count : Assembly → ℕ
body_count a = sum_by (λ (m : Method). bodies m.body) a.methods + sum_by bodies_in a.types

abbrev pub instruction_count : Assembly → ℕ
instruction_count a = sum_by (λ (m : Method). instructions m.body) a.methods + sum_by instructions_in a.types
