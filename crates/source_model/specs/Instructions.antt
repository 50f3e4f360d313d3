-- The instructions of a method as they are written, and the labels between them (ECMA-335 II.5.4, II.15.4.1, III.1.2, III.1.7,
-- VI.C.2).
use Rattle.std.specs.Prelude.{ℕ, ◌==◌, nat_lt, if◌then◌else◌, Bool, List, [], ◌∷◌, map, length, filter, find, bytes_eq, Option, None, Some, is_some}
use Rattle.std.specs.List.{flat_map}
use Rattle.opcode_table.specs.Opcodes.{names}
use Rattle.opcode_table.specs.declared.op.Op.{Op}
use Rattle.opcode_table.specs.declared.op.Op.TheVariants.{Nop}
use Rattle.ilasm_grammar.specs.declared.productions.TheConstants.{
  ITEM_NAME,
  INSTRUCTION_OP_NONE,
  INSTRUCTION_OP_VAR,
  INSTRUCTION_OP_NUM,
  INSTRUCTION_OP_REAL,
  INSTRUCTION_OP_BRANCH,
  INSTRUCTION_OP_METHOD,
  INSTRUCTION_OP_FIELD,
  INSTRUCTION_OP_TYPE,
  INSTRUCTION_SWITCH,
  INSTRUCTION_LDSTR,
  INSTRUCTION_LDTOKEN,
  NAMES,
  COMMA_NAME,
}
use Rattle.source_model.specs.Forest.{Forest, Part, parts, each, leaf_at, first_token}
use Rattle.source_model.specs.Source.{Source, spelling}
use Rattle.source_model.specs.Values.{name_text}

-- ---- instructions

-- the productions of an instruction, one for each form of its operand
abbrev pub instruction_forms : List ℕ
instruction_forms =
    INSTRUCTION_OP_NONE ∷ INSTRUCTION_OP_VAR ∷ INSTRUCTION_OP_NUM ∷ INSTRUCTION_OP_REAL ∷ INSTRUCTION_OP_BRANCH
    ∷ INSTRUCTION_OP_METHOD ∷ INSTRUCTION_OP_FIELD ∷ INSTRUCTION_OP_TYPE ∷ INSTRUCTION_SWITCH ∷ INSTRUCTION_LDSTR
    ∷ INSTRUCTION_LDTOKEN ∷ []

-- The instructions of a method in order, from what stands below its production. Braces and the blocks of `.try` mean nothing
-- here.
abbrev pub instructions_of : Forest → List Part
instructions_of f = parts instruction_forms f

-- those of one form
abbrev pub instructions_with : ℕ → Forest → List Part
instructions_with form f = filter (λ p. p.production == form) (instructions_of f)

-- the token of an instruction's mnemonic, its first
abbrev pub mnemonic_token : Part → ℕ
mnemonic_token p = first_token p.below

-- the opcode that a mnemonic or an alias names
abbrev pub op_or_nop : Option (List ℕ × Op) → Op
op_or_nop None = Nop
op_or_nop (Some row) = row.1

abbrev pub op_of : Source → Part → Op
op_of s p = op_or_nop (find (λ row. bytes_eq row.0 (spelling s (mnemonic_token p))) names)

-- how many instructions begin before a token, which is the number of the one that follows it, or of all at the end
abbrev pub number_at : Forest → ℕ → ℕ
number_at f k = length (filter (λ p. nat_lt (mnemonic_token p) k) (instructions_of f))

-- ---- labels

-- the labels of a method in order, each by the token of its name
abbrev pub labels : Forest → List ℕ
labels f = map (leaf_at 0) (each ITEM_NAME f)

-- the first label with the name that a token is
abbrev pub label_named : Source → Forest → ℕ → Option ℕ
label_named s f k = find (λ label. bytes_eq (name_text s label) (name_text s k)) (labels f)

abbrev pub is_label : Source → Forest → ℕ → Bool
is_label s f k = is_some (label_named s f k)

-- the number of the instruction that follows the label with this name, or of all instructions at the end. That of all where
-- the method has no such label.
abbrev pub number_of_label : Forest → Option ℕ → ℕ
number_of_label f None = length (instructions_of f)
number_of_label f (Some label) = number_at f label

abbrev pub label_number : Source → Forest → ℕ → ℕ
label_number s f k = number_of_label f (label_named s f k)

-- the tokens of the names in parentheses behind `switch`
abbrev pub names_in : Forest → List ℕ
names_in f = leaf_at 0 f ∷ map (leaf_at 1) (each COMMA_NAME f)

-- the tokens of the labels that an instruction branches to
abbrev pub targets : Part → List ℕ
targets p =
    if p.production == INSTRUCTION_OP_BRANCH then leaf_at 0 p.below ∷ []
    else if p.production == INSTRUCTION_SWITCH then flat_map names_in (each NAMES p.below)
    else []
