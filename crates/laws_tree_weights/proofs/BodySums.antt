-- Bodies: what they name, the texts that they load, and their bytes.
use Rattle.std.proofs.Common.{ℕ, ◌+◌, ◌*◌, ◌≤◌, List, [], ◌∷◌, length, Option, Some, None, arith}
use Rattle.std.specs.Prelude.{sum_by}
use Rattle.std.specs.List.{flat_map}
use Rattle.assembly_tree.specs.Room.{entry_size, operand_texts, instruction_texts, body_texts}
use Rattle.assembly_tree.specs.Weight.{optional, operand_weight, instruction_weight, clause_weight, body_weight}
use Rattle.assembly_tree.specs.declared.body.Body.{Body}
use Rattle.assembly_tree.specs.declared.body.Clause.{Clause}
use Rattle.assembly_tree.specs.declared.body.Ins.{Ins}
use Rattle.assembly_tree.specs.declared.body.Operand.{Operand}
use Rattle.assembly_tree.specs.declared.body.Operand.TheVariants as operand
use Rattle.opcode_table.specs.Opcodes.{bytes_of}
use Rattle.opcode_table.specs.declared.kind.OperandKind.{OperandKind}
use Rattle.opcode_table.specs.declared.kind.OperandKind.TheVariants as kinds
use Rattle.opcode_table.specs.declared.op.Op.{Op}
use Rattle.body_codec.specs.Encoding.{size_of, ins_size, offset}
use Rattle.body_codec.specs.Instruction.{joined, opcode_bytes, operand_size, kind}
use Rattle.image_tokens.specs.Loaded.{entry_sizes}
use Rattle.image_tokens.specs.NamesWeight.{named_weight, instruction_names, clause_names, names_weight}
use Rattle.image_members.proofs.BodySizes.{all_of}
use Rattle.image_members.proofs.TextWeights.{entry_most}
use Rattle.image_members.specs.CodeBytes.{code_room, stated_weight, stated_room}
use Rattle.laws_tree_weights.proofs.Sums.{sum_flat, sum_each, sum_least, totals_least}

-- ---- instructions

joined_few : (b : ℕ × Option ℕ) → length (joined b.0 b.1) ≤ 2
joined_few (first, None) = omega arith
joined_few (first, Some second) = omega arith

opcode_few : (op : Op) → length (opcode_bytes op) ≤ 2
unfolding opcode_bytes
opcode_few op = joined_few (bytes_of op)

plain_few : (k : OperandKind) → operand_size k [] ≤ 8
plain_few kinds.Nothing = omega arith
plain_few kinds.Var8 = omega arith
plain_few kinds.Var16 = omega arith
plain_few kinds.Num8 = omega arith
plain_few kinds.Num32 = omega arith
plain_few kinds.Num64 = omega arith
plain_few kinds.Byte = omega arith
plain_few kinds.Real4 = omega arith
plain_few kinds.Real8 = omega arith
plain_few kinds.Branch8 = omega arith
plain_few kinds.Branch32 = omega arith
plain_few kinds.Switch = omega arith
plain_few kinds.Method = omega arith
plain_few kinds.Field = omega arith
plain_few kinds.Of = omega arith
plain_few kinds.Text = omega arith
plain_few kinds.Token = omega arith

one_text : (units : List ℕ) → sum_by entry_size (units ∷ []) ≤ 5 + 2 * length units
one_text units = let most = entry_most units in omega arith

operand_fits : (k : OperandKind) (o : Operand) → named_weight o + size_of k o + sum_by entry_size (operand_texts o) ≤ 14 + operand_weight o
unfolding named_weight operand_weight
operand_fits k operand.Nothing = let few = plain_few k in omega arith
operand_fits k (operand.Var n) = let few = plain_few k in omega arith
operand_fits k (operand.Int n) = let few = plain_few k in omega arith
operand_fits k (operand.Real bits) = let few = plain_few k in omega arith
operand_fits k (operand.Target at) = let few = plain_few k in omega arith
operand_fits k (operand.Targets at) = omega arith
operand_fits k (operand.Method m) = let few = plain_few k in omega arith
operand_fits k (operand.Field f) = let few = plain_few k in omega arith
operand_fits k (operand.Of o) = let few = plain_few k in omega arith
operand_fits k (operand.Text units) = let few = plain_few k in let one = one_text units in omega arith

abbrev instruction_entries : Ins → ℕ
instruction_entries i = sum_by entry_size (instruction_texts i)

instruction_fits : (i : Ins) → instruction_names i + (ins_size i + (instruction_entries i + 0)) ≤ instruction_weight i
unfolding instruction_names instruction_texts instruction_weight
instruction_fits i = let few = opcode_few i.op in let fits = operand_fits (kind i.op) i.operand in omega arith

code_fits : (code : List Ins) → sum_by instruction_names code + offset code (length code) + entry_sizes (flat_map instruction_texts code) ≤ sum_by instruction_weight code
code_fits code =
    let all = all_of code in
    let flat = sum_flat entry_size instruction_texts code in
    let fits = totals_least (instruction_names ∷ ins_size ∷ instruction_entries ∷ []) instruction_weight instruction_fits code in
    omega arith

-- ---- clauses

clause_fits : (c : Clause) → clause_names c + 64 ≤ clause_weight c
unfolding clause_names clause_weight
clause_fits c = omega arith

clauses_fit : (clauses : List Clause) → sum_by clause_names clauses + 64 * length clauses ≤ sum_by clause_weight clauses
clauses_fit clauses =
    let each = sum_each clause_names 64 clauses in
    let fits = sum_least (λ c. clause_names c + 64) clause_weight clause_fits clauses in
    omega arith

-- ---- bodies

whole_fits : (b : Body) → names_weight b + code_room b + entry_sizes (flat_map instruction_texts b.code) ≤ 18 + body_weight b
unfolding names_weight code_room body_weight
whole_fits b = let code = code_fits b.code in let clauses = clauses_fit b.clauses in omega arith

pub body_fits : (b : Option Body) → stated_weight b + stated_room b + entry_sizes (body_texts b) ≤ 18 + optional body_weight b
unfolding body_texts
body_fits None = omega arith
body_fits (Some b) = whole_fits b
