-- How many bytes what a body names takes at most in heaps and in rows of references (ECMA-335 II.22.25, II.22.36, III.1.9). Its
-- instructions are not counted, and a text that is loaded stands in its heap already.
use Rattle.std.specs.Prelude.{ℕ, ◌+◌, ◌*◌, length, sum_by}
use Rattle.assembly_tree.specs.Weight.{type_weight, owner_weight, field_ref_weight, method_ref_weight, handled_weight}
use Rattle.assembly_tree.specs.declared.body.Body.{Body}
use Rattle.assembly_tree.specs.declared.body.Clause.{Clause}
use Rattle.assembly_tree.specs.declared.body.Ins.{Ins}
use Rattle.assembly_tree.specs.declared.body.Operand.{Operand}
use Rattle.assembly_tree.specs.declared.body.Operand.TheVariants as operand

-- what an instruction names
unfoldable pub named_weight : Operand → ℕ
named_weight (operand.Method m) = method_ref_weight m
named_weight (operand.Field f) = field_ref_weight f
named_weight (operand.Of o) = owner_weight o
named_weight (operand.Text units) = 0
named_weight operand.Nothing = 0
named_weight (operand.Var n) = 0
named_weight (operand.Int n) = 0
named_weight (operand.Real bits) = 0
named_weight (operand.Target at) = 0
named_weight (operand.Targets at) = 0

unfoldable pub instruction_names : Ins → ℕ
instruction_names i = named_weight i.operand

-- what a clause catches
unfoldable pub clause_names : Clause → ℕ
clause_names c = handled_weight c.kind

-- the locals, and what instructions and clauses name
unfoldable pub names_weight : Body → ℕ
names_weight b =
    64 * length b.locals + sum_by type_weight b.locals + sum_by instruction_names b.code + sum_by clause_names b.clauses
