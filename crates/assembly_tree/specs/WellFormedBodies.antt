-- The conditions on bodies in a well-formed tree (ECMA-335 II.19, II.25.4, III.1.7, III.1.9).
use Rattle.std.specs.Prelude.{ℕ, ◌+◌, ◌*◌, ◌&&◌, Bool, true, false, nat_lt, nat_le, int_le, pos, negsuc, List, length, take, sum_by}
use Rattle.std.specs.List.{list_all, enumerate_from}
use Rattle.opcode_table.specs.Opcodes as opcodes
pub use Rattle.opcode_table.specs.Sizes.{bytes_in, opcode_size}
use Rattle.opcode_table.specs.declared.kind.OperandKind.{OperandKind}
use Rattle.opcode_table.specs.declared.kind.OperandKind.TheVariants as kind
use Rattle.opcode_table.specs.declared.op.Op.{Op}
use Rattle.assembly_tree.specs.declared.assembly.Assembly.{Assembly}
use Rattle.assembly_tree.specs.declared.body.Body.{Body}
use Rattle.assembly_tree.specs.declared.body.Clause.{Clause}
use Rattle.assembly_tree.specs.declared.body.ClauseKind as handles
use Rattle.assembly_tree.specs.declared.body.Ins.{Ins}
use Rattle.assembly_tree.specs.declared.body.Operand as operand
use Rattle.assembly_tree.specs.WellFormedTerms.{is_count, is_type, is_owner, is_method_ref, is_field_ref}

-- ---- operands

-- what the opcode table says of an opcode
unfoldable pub operand_kind : Op → OperandKind
operand_kind op = opcodes.kind_of op

-- an operand that the form takes, in the form's range
abbrev pub fits_kind : OperandKind → operand.Operand → Bool
fits_kind kind.Nothing operand.TheVariants.Nothing = true
fits_kind kind.Var8 (operand.TheVariants.Var n) = nat_le n 0xFF
fits_kind kind.Var16 (operand.TheVariants.Var n) = true
fits_kind kind.Num8 (operand.TheVariants.Int n) = int_le (negsuc 0x7F) n && int_le n (pos 0x7F)
fits_kind kind.Num32 (operand.TheVariants.Int n) = int_le (negsuc 0x7FFFFFFF) n && int_le n (pos 0x7FFFFFFF)
fits_kind kind.Num64 (operand.TheVariants.Int n) = true
fits_kind kind.Byte (operand.TheVariants.Int n) = int_le (pos 0) n && int_le n (pos 0xFF)
fits_kind kind.Real4 (operand.TheVariants.Real bits) = nat_le bits 0xFFFFFFFF
fits_kind kind.Real8 (operand.TheVariants.Real bits) = true
fits_kind kind.Branch8 (operand.TheVariants.Target at) = true
fits_kind kind.Branch32 (operand.TheVariants.Target at) = true
fits_kind kind.Switch (operand.TheVariants.Targets at) = true
fits_kind kind.Method (operand.TheVariants.Method m) = true
fits_kind kind.Field (operand.TheVariants.Field f) = true
fits_kind kind.Of (operand.TheVariants.Of o) = true
fits_kind kind.Text (operand.TheVariants.Text units) = true
fits_kind kind.Token (operand.TheVariants.Method m) = true
fits_kind kind.Token (operand.TheVariants.Field f) = true
fits_kind kind.Token (operand.TheVariants.Of o) = true
fits_kind k o = false

-- targets are instructions
abbrev pub are_targets : ℕ → operand.Operand → Bool
are_targets count (operand.TheVariants.Target at) = nat_lt at count
are_targets count (operand.TheVariants.Targets at) = list_all (λ t. nat_lt t count) at
are_targets count operand.TheVariants.Nothing = true
are_targets count (operand.TheVariants.Var n) = true
are_targets count (operand.TheVariants.Int n) = true
are_targets count (operand.TheVariants.Real bits) = true
are_targets count (operand.TheVariants.Method m) = true
are_targets count (operand.TheVariants.Field f) = true
are_targets count (operand.TheVariants.Of o) = true
are_targets count (operand.TheVariants.Text units) = true

-- references and types meet their conditions
abbrev pub is_operand : Assembly → operand.Operand → Bool
is_operand a (operand.TheVariants.Method m) = is_method_ref a m
is_operand a (operand.TheVariants.Field f) = is_field_ref a f
is_operand a (operand.TheVariants.Of o) = is_owner a o
is_operand a operand.TheVariants.Nothing = true
is_operand a (operand.TheVariants.Var n) = true
is_operand a (operand.TheVariants.Int n) = true
is_operand a (operand.TheVariants.Real bits) = true
is_operand a (operand.TheVariants.Target at) = true
is_operand a (operand.TheVariants.Targets at) = true
is_operand a (operand.TheVariants.Text units) = true

-- an instruction of a body of `count` instructions: the operand fits the opcode, and targets are instructions
abbrev pub is_instruction : ℕ → Ins → Bool
is_instruction count i = fits_kind (operand_kind i.op) i.operand && are_targets count i.operand

-- ---- short branches

-- the bytes of an operand: a switch has its count and 4 for each target
abbrev pub targets_size : operand.Operand → ℕ
targets_size (operand.TheVariants.Targets at) = 4 + 4 * length at
targets_size operand.TheVariants.Nothing = 4
targets_size (operand.TheVariants.Var n) = 4
targets_size (operand.TheVariants.Int n) = 4
targets_size (operand.TheVariants.Real bits) = 4
targets_size (operand.TheVariants.Target at) = 4
targets_size (operand.TheVariants.Method m) = 4
targets_size (operand.TheVariants.Field f) = 4
targets_size (operand.TheVariants.Of o) = 4
targets_size (operand.TheVariants.Text units) = 4

abbrev pub operand_size : OperandKind → operand.Operand → ℕ
operand_size kind.Nothing o = 0
operand_size kind.Var8 o = 1
operand_size kind.Var16 o = 2
operand_size kind.Num8 o = 1
operand_size kind.Num32 o = 4
operand_size kind.Num64 o = 8
operand_size kind.Byte o = 1
operand_size kind.Real4 o = 4
operand_size kind.Real8 o = 8
operand_size kind.Branch8 o = 1
operand_size kind.Branch32 o = 4
operand_size kind.Switch o = targets_size o
operand_size kind.Method o = 4
operand_size kind.Field o = 4
operand_size kind.Of o = 4
operand_size kind.Text o = 4
operand_size kind.Token o = 4

-- the bytes of an instruction
unfoldable pub size_of : Ins → ℕ
size_of i = opcode_size i.op + operand_size (operand_kind i.op) i.operand

-- the code offset of instruction `k`, or with the number of instructions that of the end
abbrev pub offset_of : List Ins → ℕ → ℕ
offset_of code k = sum_by size_of (take k code)

-- a displacement in one signed byte leads from the offset `from` to `to`
abbrev pub is_near : ℕ → ℕ → Bool
is_near from to = nat_le from (to + 0x80) && nat_le to (from + 0x7F)

-- a branch from instruction `k`, of that form and with that operand, reaches its target. Displacements count from the
-- next instruction
abbrev pub reaches_at : List Ins → ℕ → OperandKind → operand.Operand → Bool
reaches_at code k kind.Branch8 (operand.TheVariants.Target at) = is_near (offset_of code (k + 1)) (offset_of code at)
reaches_at code k form o = true

abbrev pub reaches : List Ins → ℕ × Ins → Bool
reaches code (k, i) = reaches_at code k (operand_kind i.op) i.operand

-- each short branch reaches its target
unfoldable pub short_branches_reach : List Ins → Bool
short_branches_reach code = list_all (reaches code) (enumerate_from 0 code)

-- ---- clauses (ECMA-335 II.19, II.25.4.6)

-- neither the try block nor the handler is empty or backwards, and a filter starts before its handler
abbrev pub filter_before : ℕ → handles.ClauseKind → Bool
filter_before start (handles.TheVariants.Filter at) = nat_lt at start
filter_before start (handles.TheVariants.Catch o) = true
filter_before start handles.TheVariants.Finally = true
filter_before start handles.TheVariants.Fault = true

abbrev pub is_forward : Clause → Bool
is_forward c =
    nat_lt c.try_start c.try_end && nat_lt c.handler_start c.handler_end && filter_before c.handler_start c.kind

-- the numbers of a clause are at most that of the instructions
abbrev pub is_filter_inside : ℕ → handles.ClauseKind → Bool
is_filter_inside count (handles.TheVariants.Filter at) = nat_le at count
is_filter_inside count (handles.TheVariants.Catch o) = true
is_filter_inside count handles.TheVariants.Finally = true
is_filter_inside count handles.TheVariants.Fault = true

abbrev pub is_inside : ℕ → Clause → Bool
is_inside count c =
    nat_le c.try_start count && nat_le c.try_end count && nat_le c.handler_start count && nat_le c.handler_end count
    && is_filter_inside count c.kind

-- a caught type meets its conditions
abbrev pub is_handled : Assembly → handles.ClauseKind → Bool
is_handled a (handles.TheVariants.Catch o) = is_owner a o
is_handled a (handles.TheVariants.Filter at) = true
is_handled a handles.TheVariants.Finally = true
is_handled a handles.TheVariants.Fault = true

unfoldable pub is_clause : ℕ → Clause → Bool
is_clause count c = is_forward c && is_inside count c

-- ---- bodies

-- a body by itself, save for short branches: it has code, its counts are in range, operands fit, targets are
-- instructions, and clauses are forward and inside
unfoldable pub has_body_form : Body → Bool
has_body_form b =
    nat_lt 0 (length b.code) && is_count (length b.locals) && is_count (length b.clauses)
    && list_all (is_instruction (length b.code)) b.code && list_all (is_clause (length b.code)) b.clauses

-- what a body names: locals, operands and caught types
unfoldable pub names_well : Assembly → Body → Bool
names_well a b =
    list_all (is_type a) b.locals && list_all (λ i. is_operand a i.operand) b.code && list_all (λ c. is_handled a c.kind) b.clauses

unfoldable pub is_body : Assembly → Body → Bool
is_body a b = has_body_form b && short_branches_reach b.code && names_well a b
