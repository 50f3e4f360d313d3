-- Numbers of instructions that are out of their ranges, by the forms of instructions (ECMA-335 III.1.7.2, III.2.5, III.3.40).
use Rattle.std.specs.Prelude.{ℕ, Bool, ◌==◌, ◌||◌, if◌then◌else◌, List, [], ◌++◌}
use Rattle.opcode_table.specs.declared.kind.OperandKind.{OperandKind}
use Rattle.opcode_table.specs.declared.kind.OperandKind.TheVariants as kind
use Rattle.ilasm_grammar.specs.declared.productions.TheConstants.{INSTRUCTION_OP_NUM, INSTRUCTION_OP_REAL, INSTRUCTION_OP_VAR}
use Rattle.source_model.specs.BodyNumbers.{number_out_of_range, real_out_of_range, variable_out_of_range}
use Rattle.source_model.specs.Forest.{Forest, Part}
use Rattle.source_model.specs.Source.{Source}

-- what is out of its range in an instruction of one of these forms
abbrev pub number_at_fault : Source → Part → List ℕ
number_at_fault s p = if p.production == INSTRUCTION_OP_NUM then number_out_of_range s p else []

abbrev pub real_at_fault : Source → Part → List ℕ
real_at_fault s p = if p.production == INSTRUCTION_OP_REAL then real_out_of_range s p else []

abbrev pub variable_at_fault : Source → Forest → Part → List ℕ
variable_at_fault s f p = if p.production == INSTRUCTION_OP_VAR then variable_out_of_range s f p else []

abbrev pub operand_at_fault : Source → Forest → Part → List ℕ
operand_at_fault s f p = number_at_fault s p ++ (real_at_fault s p ++ variable_at_fault s f p)

-- these forms alone can be at fault
abbrev pub is_ranged : ℕ → Bool
is_ranged p = p == INSTRUCTION_OP_NUM || (p == INSTRUCTION_OP_REAL || p == INSTRUCTION_OP_VAR)

-- the bytes of the real number of an instruction
abbrev pub real_size : OperandKind → ℕ
real_size kind.Real4 = 4
real_size k = 8
