-- The operands of instructions (ECMA-335 III.1.7, III.3, III.4, II.23.2).
use Rattle.std.specs.Prelude.{ℕ, ◌==◌, if◌then◌else◌, ℤ, pos, List, map}
use Rattle.opcode_table.specs.declared.kind.OperandKind.{OperandKind}
use Rattle.opcode_table.specs.declared.kind.OperandKind.TheVariants as kind
use Rattle.assembly_tree.specs.WellFormedBodies.{operand_kind}
use Rattle.assembly_tree.specs.declared.body.Ins.{Ins}
use Rattle.assembly_tree.specs.declared.body.Operand.{Operand}
use Rattle.assembly_tree.specs.declared.body.Operand.TheVariants as operand
use Rattle.ilasm_grammar.specs.declared.productions.TheConstants.{
  TEXT,
  METHOD_REF,
  FIELD_REF,
  INSTRUCTION_OP_NONE,
  INSTRUCTION_OP_VAR,
  INSTRUCTION_OP_NUM,
  INSTRUCTION_OP_REAL,
  INSTRUCTION_OP_BRANCH,
  INSTRUCTION_OP_METHOD,
  INSTRUCTION_OP_FIELD,
  INSTRUCTION_OP_TYPE,
  INSTRUCTION_SWITCH,
  INSTRUCTION_LDSTR,
  REAL_BITS_FLOAT32,
  REAL_BITS_FLOAT64,
  REAL_BITS_REAL_BYTES,
  STRING_OPERAND_TEXT,
  STRING_OPERAND_BYTES,
  TOKEN_OPERAND_METHOD,
  TOKEN_OPERAND_FIELD,
}
use Rattle.source_model.specs.Constants.{wrapped, signed_wrapped, units_in}
use Rattle.source_model.specs.Forest.{Forest, Part, has, the, leaf_at}
use Rattle.source_model.specs.Instructions.{op_of, label_number, targets}
use Rattle.source_model.specs.Nodes.{Around}
use Rattle.source_model.specs.References.{method_ref, field_ref}
use Rattle.source_model.specs.Shapes.{natural}
use Rattle.source_model.specs.Source.{Source}
use Rattle.source_model.specs.Types.{the_owner}
use Rattle.source_model.specs.Values.{int_at, units_of_bytes, array_bytes, real_bytes, little_number}
use Rattle.source_model.specs.Variables.{variable_number}

-- ---- numbers (ECMA-335 III.3.40, III.2.5)

-- what an operand of this kind holds of a number: the signed number of its width for a constant, the one without a sign for
-- an alignment
abbrev pub number_in : OperandKind → ℤ → ℤ
number_in kind.Num8 z = signed_wrapped 8 z
number_in kind.Num32 z = signed_wrapped 32 z
number_in kind.Num64 z = signed_wrapped 64 z
number_in k z = pos (wrapped 8 z)

-- the token of the number in an instruction
abbrev pub number_token : Part → ℕ
number_token p = leaf_at 0 p.below

-- the bits of a real number, from a forest that holds it: as a number of 32 or 64 bits, or as bytes, lowest first
abbrev pub real_bits : Source → Forest → ℕ
real_bits s f =
    if has REAL_BITS_FLOAT32 f then wrapped 32 (int_at s (leaf_at 2 (the REAL_BITS_FLOAT32 f)))
    else if has REAL_BITS_FLOAT64 f then wrapped 64 (int_at s (leaf_at 2 (the REAL_BITS_FLOAT64 f)))
    else little_number (real_bytes s (leaf_at 0 (the REAL_BITS_REAL_BYTES f)))

-- ---- strings (ECMA-335 III.4.16)

-- the units of UTF-16 of a string, or those that bytes spell
abbrev pub string_units : Source → Forest → List ℕ
string_units s f =
    if has STRING_OPERAND_TEXT f then units_in s (the TEXT (the STRING_OPERAND_TEXT f))
    else units_of_bytes (array_bytes s (leaf_at 0 (the STRING_OPERAND_BYTES f)))

module _ (s : Source) (a : Around) where
  -- what `ldtoken` takes: a method, a field or a type (ECMA-335 III.4.17)
  abbrev pub token_operand : Forest → Operand
  token_operand f =
      if has TOKEN_OPERAND_METHOD f then operand.Method (method_ref s a (the METHOD_REF f))
      else if has TOKEN_OPERAND_FIELD f then operand.Field (field_ref s a (the FIELD_REF f))
      else operand.Of (the_owner s a f)

  -- the operand of an instruction of a method, which is given by what stands below its production
  abbrev pub operand_of : Forest → Part → Operand
  operand_of f p =
      if p.production == INSTRUCTION_OP_NONE then operand.Nothing
      else if p.production == INSTRUCTION_OP_VAR then operand.Var (natural (variable_number s f p))
      else if p.production == INSTRUCTION_OP_NUM then
      operand.Int (number_in (operand_kind (op_of s p)) (int_at s (number_token p)))
      else if p.production == INSTRUCTION_OP_REAL then operand.Real (real_bits s p.below)
      else if p.production == INSTRUCTION_OP_BRANCH then operand.Target (label_number s f (leaf_at 0 p.below))
      else if p.production == INSTRUCTION_OP_METHOD then operand.Method (method_ref s a (the METHOD_REF p.below))
      else if p.production == INSTRUCTION_OP_FIELD then operand.Field (field_ref s a (the FIELD_REF p.below))
      else if p.production == INSTRUCTION_OP_TYPE then operand.Of (the_owner s a p.below)
      else if p.production == INSTRUCTION_SWITCH then operand.Targets (map (label_number s f) (targets p))
      else if p.production == INSTRUCTION_LDSTR then operand.Text (string_units s p.below)
      else token_operand p.below

  abbrev pub instruction : Forest → Part → Ins
  instruction f p = record { op = op_of s p; operand = operand_of f p }
