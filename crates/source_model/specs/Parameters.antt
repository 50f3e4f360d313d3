-- Parameters and generic parameters, and what `.param` says of them (ECMA-335 II.10.1.7, II.15.4, II.15.4.1.4, II.22.20, II.22.33).
use Rattle.std.specs.Prelude.{ℕ, ◌-◌, ◌==◌, ◌&&◌, ◌||◌, nat_lt, Bool, if◌then◌else◌, List, [], ◌∷◌, map, length, filter, fold, bit_or, Option, None, Some}
use Rattle.std.specs.List.{flat_map, enumerate_from}
use Rattle.assembly_tree.specs.declared.members.Attribute.{Attribute}
use Rattle.assembly_tree.specs.declared.members.Constant.{Constant}
use Rattle.assembly_tree.specs.declared.members.Generic.{Generic}
use Rattle.assembly_tree.specs.declared.members.Param.{Param}
use Rattle.ilasm_grammar.specs.declared.productions.TheConstants.{DEF_ARG, DEF_ARGS_OPT_SOME, NAME_OPT_SOME, FLAGS, ITEM_PARAM, PARAM_OF_BRACKET, PARAM_OF_TYPE, MEMBER_PARAM, TYPAR_BOUNDS, TYPAR_KEY_BRACKET, TYPAR_KEY_NAME}
use Rattle.source_model.specs.Constants.{constant_of}
use Rattle.source_model.specs.Flags.{parameter_words, parameter_flags_in, flags_of, flags_number, typar_flags, without_bits}
use Rattle.source_model.specs.Forest.{Forest, Part, none, each, has, the, child, leaf_at, is_any_part}
use Rattle.source_model.specs.Items.{Run}
use Rattle.source_model.specs.Manifests.{attributes}
use Rattle.source_model.specs.Nodes.{Around, typars, typar_names}
use Rattle.source_model.specs.Shapes.{natural}
use Rattle.source_model.specs.Source.{Source}
use Rattle.source_model.specs.Types.{owners_in, number_of}
use Rattle.source_model.specs.Values.{int_at, name_text}

-- ---- lines of `.param`

-- what `.param [n]` and `.param type` stand for among the items of a method, and `.param type` among the members of a class
abbrev pub speaks_of_parameter : Run → Bool
speaks_of_parameter r = has PARAM_OF_BRACKET r.head.below

-- an item or a member that is a line of `.param type` itself, whatever stands in it
abbrev pub is_typar_line : Part → Bool
is_typar_line p = p.production == MEMBER_PARAM || (p.production == ITEM_PARAM && has PARAM_OF_TYPE p.below)

abbrev pub speaks_of_typar : Run → Bool
speaks_of_typar r = is_typar_line r.head

-- the number in `.param [n]`
abbrev pub parameter_number : Source → Forest → ℕ
parameter_number s f = natural (int_at s (leaf_at 1 (the PARAM_OF_BRACKET f)))

-- which of these generic parameters is meant, counted from 0: by its number, counted from 1, or by its name
abbrev pub typar_number : Source → List (List ℕ) → Forest → ℕ
typar_number s names f =
    if has TYPAR_KEY_BRACKET f then natural (int_at s (leaf_at 1 (the TYPAR_KEY_BRACKET f))) - 1
    else number_of names (name_text s (leaf_at 0 (the TYPAR_KEY_NAME f)))

-- the attributes of these lines, in order
abbrev pub attributes_of : Source → Around → List Run → List Attribute
attributes_of s a rs = flat_map (λ r. attributes s a r.customs) rs

-- ---- generic parameters

-- a generic parameter, from its number, what stands below its production, and the lines that speak of generic parameters
abbrev pub generic : Source → Around → List (List ℕ) → List Run → ℕ × Forest → Generic
generic s a names lines (number, f) = record {
  name = name_text s (leaf_at 0 f);
  flags = typar_flags s f;
  bounds = owners_in s a (the TYPAR_BOUNDS f);
  attributes = attributes_of s a (filter (λ r. typar_number s names r.head.below == number) lines);
}

-- those of a class or a method, with the runs of its members or items
abbrev pub generics : Source → Around → Forest → List Run → List Generic
generics s a f rs = map (generic s a (typar_names s f) (filter speaks_of_typar rs)) (enumerate_from 0 (typars f))

-- ---- parameters

-- `.param [n]` adds its flags
abbrev pub with_line_flags : Source → ℕ → Run → ℕ
with_line_flags s flags r = if has FLAGS r.head.below then bit_or flags (flags_number s r.head.below) else flags

-- and sets the constant; the last one holds
abbrev pub later_constant : Option Constant → Option Constant → Option Constant
later_constant before None = before
later_constant before (Some c) = Some c

abbrev pub line_constant : Source → Option Constant → Run → Option Constant
line_constant s before r = later_constant before (constant_of s r.head.below)

-- the text of a parameter's name, which is empty where it has none
abbrev pub parameter_name : Source → Forest → List ℕ
parameter_name s f = if has NAME_OPT_SOME f then name_text s (leaf_at 0 (child (NAME_OPT_SOME ∷ []) f)) else []

-- a parameter of which more is said than its type: it has a name or a flag, or a line speaks of it
abbrev pub has_row : List Run → Forest → Bool
has_row lines f = has NAME_OPT_SOME f || is_any_part (parameter_flags_in f) || nat_lt 0 (length lines)

-- Its row. HasDefault isn't in the tree (ECMA-335 II.23.1.13).
abbrev pub row : Source → Around → ℕ → Forest → List Run → Param
row s a number f lines = record {
  number = number;
  flags = without_bits 0x1000 (fold (with_line_flags s) (flags_of s parameter_words (parameter_flags_in f)) lines);
  name = parameter_name s f;
  constant = fold (line_constant s) None lines;
  attributes = attributes_of s a lines;
}

abbrev pub rows_of : Source → Around → List Run → ℕ × Forest → List Param
rows_of s a lines (number, f) =
    let own = filter (λ r. parameter_number s r.head.below == number) lines in
    if has_row own f then row s a number f own ∷ [] else []

-- the parameters of a method, each by what stands below its production
abbrev pub parameters : Forest → List Forest
parameters method = each DEF_ARG (child (DEF_ARGS_OPT_SOME ∷ []) method)

-- the rows of a method's parameters, with the runs of its items; number 0 is the return value
abbrev pub params : Source → Around → Forest → List Run → List Param
params s a method rs =
    flat_map (rows_of s a (filter speaks_of_parameter rs)) ((0, none) ∷ enumerate_from 1 (parameters method))
