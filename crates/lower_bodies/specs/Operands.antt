-- The operands of instructions by their forms (ECMA-335 III.1.7, III.3, III.4).
use Rattle.std.specs.Prelude.{◌==◌, if◌then◌else◌, map}
use Rattle.assembly_tree.specs.declared.body.Ins.{Ins}
use Rattle.assembly_tree.specs.declared.body.Operand.{Operand}
use Rattle.assembly_tree.specs.declared.body.Operand.TheVariants as operand
use Rattle.opcode_table.specs.declared.op.Op.{Op}
use Rattle.ilasm_grammar.specs.declared.productions.TheConstants.{
  FIELD_REF,
  METHOD_REF,
  INSTRUCTION_LDSTR,
  INSTRUCTION_OP_BRANCH,
  INSTRUCTION_OP_FIELD,
  INSTRUCTION_OP_METHOD,
  INSTRUCTION_OP_TYPE,
  INSTRUCTION_SWITCH,
}
use Rattle.source_model.specs.Forest.{Forest, Part, leaf_at, the}
use Rattle.source_model.specs.Instructions.{label_number, targets}
use Rattle.source_model.specs.Nodes.{Around}
use Rattle.source_model.specs.Operands.{string_units, token_operand}
use Rattle.source_model.specs.References.{field_ref, method_ref}
use Rattle.source_model.specs.Source.{Source}
use Rattle.source_model.specs.Types.{the_owner}

-- that of an instruction that takes a method, a field or a type
abbrev pub reference_operand : Source → Around → Part → Operand
reference_operand s a p =
    if p.production == INSTRUCTION_OP_METHOD then operand.Method (method_ref s a (the METHOD_REF p.below))
    else if p.production == INSTRUCTION_OP_FIELD then operand.Field (field_ref s a (the FIELD_REF p.below))
    else if p.production == INSTRUCTION_OP_TYPE then operand.Of (the_owner s a p.below)
    else token_operand s a p.below

-- that of an instruction that takes neither nothing nor a number
abbrev pub other_operand : Source → Around → Forest → Part → Operand
other_operand s a f p =
    if p.production == INSTRUCTION_OP_BRANCH then operand.Target (label_number s f (leaf_at 0 p.below))
    else if p.production == INSTRUCTION_SWITCH then operand.Targets (map (label_number s f) (targets p))
    else if p.production == INSTRUCTION_LDSTR then operand.Text (string_units s p.below)
    else reference_operand s a p

-- an instruction with its operand
abbrev pub instruction_with : Op → Operand → Ins
instruction_with op operand = record { op = op; operand = operand }
