-- Numbers and counts of bodies out of their ranges (ECMA-335 II.15.4.1.3, II.25.4.2, II.25.4.5, III.1.7.2, III.2.5, III.3.38,
-- III.3.40, III.3.43).
use Rattle.std.specs.Prelude.{ℕ, ◌*◌, ◌==◌, Bool, if◌then◌else◌, ℤ, pos, List, [], ◌∷◌, ◌++◌, map, length}
use Rattle.std.specs.List.{flat_map, enumerate_from}
use Rattle.opcode_table.specs.declared.kind.OperandKind.{OperandKind}
use Rattle.opcode_table.specs.declared.kind.OperandKind.TheVariants as kind
use Rattle.assembly_tree.specs.WellFormedBodies.{operand_kind}
use Rattle.ilasm_grammar.specs.declared.productions.TheConstants.{
  METHOD,
  ITEM_MAXSTACK,
  BRACKETED_INT,
  BRACKETED_INT_OPT_SOME,
  INSTRUCTION_OP_VAR,
  INSTRUCTION_OP_NUM,
  INSTRUCTION_OP_REAL,
  REAL_BITS_FLOAT32,
  REAL_BITS_FLOAT64,
  REAL_BITS_REAL_BYTES,
}
use Rattle.source_model.specs.Clauses.{Guarded, guarded}
use Rattle.source_model.specs.Forest.{Forest, Part, parts, each, child, leaf_at}
use Rattle.source_model.specs.Instructions.{instructions_with, op_of}
use Rattle.source_model.specs.Nodes.{Node, nodes, nodes_of}
use Rattle.source_model.specs.Operands.{number_token}
use Rattle.source_model.specs.OutOfRange.{fits_width, is_16_bits}
use Rattle.source_model.specs.Source.{Source}
use Rattle.source_model.specs.TypeRules.{is_within, unless, out_of, past_count}
use Rattle.source_model.specs.Values.{real_bytes}
use Rattle.source_model.specs.Variables.{locals, variable_number, variable_token}

-- ---- the stack

-- each number of `.maxstack`
abbrev pub bounds_out_of_range : Source → Forest → List ℕ
bounds_out_of_range s f = flat_map (λ line. unless is_16_bits s (leaf_at 1 line)) (each ITEM_MAXSTACK f)

-- ---- numbers of instructions

-- a constant is from the least signed to the greatest unsigned number of its width, an alignment from 0 to 255
abbrev pub fits_kind : OperandKind → ℤ → Bool
fits_kind kind.Num8 z = fits_width 8 z
fits_kind kind.Num32 z = fits_width 32 z
fits_kind kind.Num64 z = fits_width 64 z
fits_kind k z = is_within (pos 0) (pos 0xFF) z

abbrev pub number_out_of_range : Source → Part → List ℕ
number_out_of_range s p = unless (fits_kind (operand_kind (op_of s p))) s (number_token p)

-- ---- bits of real numbers

-- the bits of the instruction's real number
abbrev pub real_width : OperandKind → ℕ
real_width kind.Real4 = 32
real_width k = 64

-- the token at which bits of a real number begin, unless they are as many as the instruction's
abbrev pub unless_width : ℕ → ℕ → ℕ → List ℕ
unless_width wanted width k = if wanted == width then [] else k ∷ []

-- `float32(n)`, `float64(n)` and bytes, in an instruction of so many bits
abbrev pub real_bits_out_of_range : Source → ℕ → Part → List ℕ
real_bits_out_of_range s wanted p =
    if p.production == REAL_BITS_FLOAT32 then
    unless_width wanted 32 (leaf_at 0 p.below) ++ unless (fits_width 32) s (leaf_at 2 p.below)
    else if p.production == REAL_BITS_FLOAT64 then
    unless_width wanted 64 (leaf_at 0 p.below) ++ unless (fits_width 64) s (leaf_at 2 p.below)
    else unless_width wanted (8 * length (real_bytes s (leaf_at 0 p.below))) (leaf_at 0 p.below)

abbrev pub real_out_of_range : Source → Part → List ℕ
real_out_of_range s p =
    flat_map (real_bits_out_of_range s (real_width (operand_kind (op_of s p))))
    (parts (REAL_BITS_FLOAT32 ∷ REAL_BITS_FLOAT64 ∷ REAL_BITS_REAL_BYTES ∷ []) p.below)

-- ---- arguments and locals

-- the greatest number of a variable: the operand has one byte in the short form, else two
abbrev pub greatest_variable : OperandKind → ℕ
greatest_variable kind.Var8 = 0xFF
greatest_variable k = 0xFFFF

-- the number, or the name of a variable that has such a number
abbrev pub variable_out_of_range : Source → Forest → Part → List ℕ
variable_out_of_range s f p =
    if is_within (pos 0) (pos (greatest_variable (operand_kind (op_of s p)))) (variable_number s f p) then []
    else variable_token p ∷ []

-- `[k]` before a local is its number
abbrev pub local_misnumbered : Source → ℕ × Forest → List ℕ
local_misnumbered s (number, f) =
    flat_map (λ g. out_of (pos number) (pos number) s (leaf_at 1 g)) (each BRACKETED_INT (child (BRACKETED_INT_OPT_SOME ∷ []) f))

-- ---- counts

-- the clauses of a method in the order of their last tokens, as its body has them
abbrev pub clause_forests : Forest → List Forest
clause_forests f = map (λ g. g.clause.below) (guarded f)

-- ---- all of these

abbrev pub body_numbers_out_of_range_in : Source → Node → List ℕ
body_numbers_out_of_range_in s n =
    bounds_out_of_range s n.below ++ flat_map (number_out_of_range s) (instructions_with INSTRUCTION_OP_NUM n.below)
    ++ flat_map (real_out_of_range s) (instructions_with INSTRUCTION_OP_REAL n.below)
    ++ flat_map (variable_out_of_range s n.below) (instructions_with INSTRUCTION_OP_VAR n.below)
    ++ flat_map (local_misnumbered s) (enumerate_from 0 (locals n.below)) ++ past_count (locals n.below)
    ++ past_count (clause_forests n.below)

abbrev pub body_numbers_out_of_range : Source → List ℕ
body_numbers_out_of_range s = flat_map (body_numbers_out_of_range_in s) (nodes_of (METHOD ∷ []) (nodes s))
