-- The sizes of instructions as they are written, and where they stand in code (ECMA-335 II.25.4, III.1.2, III.3.66).
use Rattle.std.specs.Prelude.{◌≡◌, ℕ, ◌+◌, ◌*◌, ◌==◌, ◌&&◌, Bool, true, false, if◌then◌else◌, List, [], ◌∷◌, length, map, slice_index_or, Option, None, Some}
use Rattle.opcode_table.specs.declared.kind.OperandKind.{OperandKind}
use Rattle.opcode_table.specs.declared.kind.OperandKind.TheVariants as kind
use Rattle.assembly_tree.specs.WellFormedBodies.{is_near, operand_kind, size_of}
use Rattle.assembly_tree.specs.declared.body.Ins.{Ins}
use Rattle.ilasm_grammar.specs.declared.productions.TheConstants.{INSTRUCTION_OP_BRANCH, INSTRUCTION_SWITCH}
use Rattle.source_model.specs.Forest.{Forest, Part, leaf_at}
use Rattle.source_model.specs.Instructions.{op_of, targets}
use Rattle.source_model.specs.Source.{Source}
use Rattle.source_syntax.specs.Labels.{number_declared}

-- the bytes of an operand of this kind, where targets behind `switch` would take so many
abbrev pub size_by : OperandKind → ℕ → ℕ
size_by kind.Nothing t = 0
size_by kind.Var8 t = 1
size_by kind.Var16 t = 2
size_by kind.Num8 t = 1
size_by kind.Num32 t = 4
size_by kind.Num64 t = 8
size_by kind.Byte t = 1
size_by kind.Real4 t = 4
size_by kind.Real8 t = 8
size_by kind.Branch8 t = 1
size_by kind.Branch32 t = 4
size_by kind.Switch t = t
size_by kind.Method t = 4
size_by kind.Field t = 4
size_by kind.Of t = 4
size_by kind.Text t = 4
size_by kind.Token t = 4

-- the bytes of the targets of an instruction: a count and 4 for each, or 4
abbrev pub targets_bytes : Part → ℕ
targets_bytes p = if p.production == INSTRUCTION_SWITCH then 4 + 4 * length (targets p) else 4

-- where instructions of these sizes stand from an offset on, and where the last ends
abbrev pub offsets_from : ℕ → List ℕ → List ℕ
offsets_from at [] = at ∷ []
offsets_from at (x ∷ xs) = at ∷ offsets_from (at + x) xs

-- the offset of each instruction of some code, and that of its end
abbrev pub AreOffsets : List ℕ → List Ins → Type 0
AreOffsets offsets code = offsets ≡ offsets_from 0 (map size_of code)

-- ---- short branches

-- the operand of a branch is one signed byte
abbrev pub is_short : OperandKind → Bool
is_short kind.Branch8 = true
is_short k = false

-- the label behind a short branch
abbrev pub short_target : Source → Part → Option ℕ
short_target s p = if p.production == INSTRUCTION_OP_BRANCH && is_short (operand_kind (op_of s p)) then Some (leaf_at 0 p.below) else None

-- a label that stands for this number, unless one signed byte leads to it from the end of the branch, which has the number `k`
abbrev pub far_from : List ℕ → ℕ → Option ℕ → ℕ → List ℕ
far_from offsets k None token = []
far_from offsets k (Some at) token = if is_near (slice_index_or offsets (k + 1) 0) (slice_index_or offsets at 0) then [] else token ∷ []

abbrev pub far_target : Source → Forest → List ℕ → ℕ → Option ℕ → List ℕ
far_target s f offsets k None = []
far_target s f offsets k (Some token) = far_from offsets k (number_declared s f token) token
