-- The locals and the arguments of a method (ECMA-335 II.15.4.1.3, II.23.2.6, III.1.7.2, III.3.38, III.3.43).
use Rattle.std.specs.Prelude.{ℕ, ◌+◌, ◌&&◌, Bool, true, false, not, if◌then◌else◌, ℤ, pos, List, [], ◌∷◌, map, position, bytes_eq, Option, option_map}
use Rattle.type_terms.specs.declared.term.SigType.{SigType}
use Rattle.opcode_table.specs.declared.op.Op.{Op}
use Rattle.opcode_table.specs.declared.op.Op.TheVariants.{LdargS, LdargaS, StargS, Ldarg, Ldarga, Starg}
use Rattle.ilasm_grammar.specs.declared.productions.TheConstants.{CALL_CONV, INSTANCE, EXPLICIT_OPT_SOME, INDEX_INT, INDEX_NAME, LOCAL, NAME_OPT_SOME}
use Rattle.source_model.specs.Forest.{Forest, Part, each, has, child, leaf_at}
use Rattle.source_model.specs.Instructions.{op_of}
use Rattle.source_model.specs.Nodes.{Around}
use Rattle.source_model.specs.Parameters.{parameters}
use Rattle.source_model.specs.Source.{Source}
use Rattle.source_model.specs.Types.{the_type}
use Rattle.source_model.specs.Values.{or_zero, int_at, name_text}

-- ---- locals

-- the locals of all `.locals` of a method, joined in order, each by what stands below its production
abbrev pub locals : Forest → List Forest
locals f = each LOCAL f

-- their types
abbrev pub local_types : Source → Around → Forest → List SigType
local_types s a f = map (the_type s a) (locals f)

-- ---- names

-- a parameter or a local has the name that a token is
abbrev pub has_name : Source → ℕ → Forest → Bool
has_name s k f = has NAME_OPT_SOME f && bytes_eq (name_text s (leaf_at 0 (child (NAME_OPT_SOME ∷ []) f))) (name_text s k)

-- an opcode of arguments; the others that name a variable are those of locals
abbrev pub is_of_arguments : Op → Bool
is_of_arguments LdargS = true
is_of_arguments LdargaS = true
is_of_arguments StargS = true
is_of_arguments Ldarg = true
is_of_arguments Ldarga = true
is_of_arguments Starg = true
is_of_arguments op = false

-- the number of the argument that the first parameter is: argument 0 of a method with `instance` is its object, unless
-- `explicit` says that the object stands among the parameters (ECMA-335 II.15.3)
abbrev pub first_argument : Forest → ℕ
first_argument f =
    if has INSTANCE (child (CALL_CONV ∷ []) f) && not (has EXPLICIT_OPT_SOME (child (CALL_CONV ∷ []) f)) then 1 else 0

-- the number of the first parameter with this name among the arguments, or of the first local with it
abbrev pub variable_named : Source → Forest → Op → ℕ → Option ℕ
variable_named s f op k =
    if is_of_arguments op then option_map (λ n. first_argument f + n) (position (has_name s k) (parameters f))
    else position (has_name s k) (locals f)

-- ---- as they stand in an instruction

-- the token of the number or the name of a variable
abbrev pub variable_token : Part → ℕ
variable_token p = leaf_at 0 (child (INDEX_INT ∷ INDEX_NAME ∷ []) p.below)

-- the number of the variable in an instruction, written as a number or by its name. 0 where the method has no such name.
abbrev pub variable_number : Source → Forest → Part → ℤ
variable_number s f p =
    if has INDEX_INT p.below then int_at s (variable_token p)
    else pos (or_zero (variable_named s f (op_of s p) (variable_token p)))
