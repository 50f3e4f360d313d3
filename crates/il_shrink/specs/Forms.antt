-- The instructions of a body by their lengths, and the code of a choice of lengths.
use Rattle.std.specs.Prelude.{ℕ, min, List, [], ◌∷◌}
use Rattle.branch_forms.specs.declared.form.Form.{Form}
use Rattle.branch_forms.specs.declared.form.Form.TheVariants.{Fixed, Short, Long}
use Rattle.branch_forms.specs.Forms.{shortened}
use Rattle.opcode_table.specs.declared.kind.OperandKind.{OperandKind}
use Rattle.opcode_table.specs.declared.kind.OperandKind.TheVariants as kind
use Rattle.opcode_table.specs.declared.op.Op.{Op}
use Rattle.assembly_tree.specs.declared.body.Ins.{Ins}
use Rattle.assembly_tree.specs.declared.body.Operand as operand
use Rattle.assembly_tree.specs.WellFormedBodies.{operand_kind, size_of}
use Rattle.il_shrink.specs.Branches.{short_form, long_form}
use Rattle.il_shrink.specs.Shrunk.{with_short}

-- a branch with its target, and any other instruction with its length
abbrev pub form_in : OperandKind → operand.Operand → ℕ → Form
form_in kind.Branch8 (operand.TheVariants.Target to) bytes = Short to
form_in kind.Branch32 (operand.TheVariants.Target to) bytes = Long to
form_in k o bytes = Fixed bytes

-- the length of an instruction of which a branch is short, or 255 where that is more
abbrev pub short_size : Ins → ℕ
short_size i = min (size_of (with_short i)) 255

unfoldable pub form_of : Ins → Form
form_of i = form_in (operand_kind i.op) i.operand (short_size i)

-- the same with all branches short
abbrev pub first_form : Ins → Form
first_form i = shortened (form_of i)

-- the opcode and the instruction in a form
abbrev pub op_in : Form → Op → Op
op_in (Fixed bytes) op = short_form op
op_in (Short to) op = short_form op
op_in (Long to) op = long_form op

abbrev pub in_form : Form → Ins → Ins
in_form f i = record i { op = op_in f i.op }

-- the instructions in those forms, one by one
abbrev pub chosen : List Ins → List Form → List Ins
chosen [] fs = []
chosen (i ∷ is) [] = []
chosen (i ∷ is) (f ∷ fs) = in_form f i ∷ chosen is fs
