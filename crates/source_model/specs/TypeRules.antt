-- The rules that a production in a type, a signature or a reference can break, each with the tokens at which it does
-- (ECMA-335 II.5.2, II.7.1, II.14.2, II.15.3, II.23.2).
use Rattle.std.specs.Prelude.{ℕ, ◌==◌, ◌&&◌, ◌||◌, nat_lt, Bool, if◌then◌else◌, ℤ, pos, negsuc, int_le, List, [], ◌∷◌, ◌++◌, map, drop, length, bytes_eq, Option, None, Some, is_some}
use Rattle.std.specs.List.{flat_map, list_any}
use Rattle.type_terms.specs.Depth.{depth}
use Rattle.type_terms.specs.declared.name.Scope.{Scope}
use Rattle.type_terms.specs.declared.name.Scope.TheVariants.{Here, Extern}
use Rattle.ilasm_grammar.specs.declared.productions.TheConstants.{
  TYPE,
  TYPE_BASE_BANG,
  TYPE_BASE_DOUBLE_BANG,
  INDEX_INT,
  INDEX_NAME,
  TYPE_SUFFIX_BRACKET,
  GEN_ARGS_BRACKET,
  GEN_ARGS_TYPE,
  SIGNATURE,
  SIG_ARG_ELLIPSIS,
  DEF_ARG,
  DEF_ARGS,
  PARAM_ATTR_FLAGS,
  TYPARS,
  TYPAR,
}
use Rattle.source_model.specs.Flags.{flags_token}
use Rattle.source_model.specs.Forest.{Forest, each, has, the, leaf_at, first_token}
use Rattle.source_model.specs.Names.{Written, written_name, written_scope, is_declared_path}
use Rattle.source_model.specs.Nodes.{Node, type_id, typar_names}
use Rattle.source_model.specs.Shapes.{Bound, dimensions, commas, size_value, is_vector}
use Rattle.source_model.specs.Source.{Source}
use Rattle.source_model.specs.Types.{type_of}
use Rattle.source_model.specs.Values.{int_at, name_text}

-- ---- numbers and counts

-- a number from one to another
abbrev pub is_within : ℤ → ℤ → ℤ → Bool
is_within low high z = int_le low z && int_le z high

-- the token, unless the number that it spells passes
abbrev pub unless : (ℤ → Bool) → Source → ℕ → List ℕ
unless passes s k = if passes (int_at s k) then [] else k ∷ []

abbrev pub out_of : ℤ → ℤ → Source → ℕ → List ℕ
out_of low high s k = unless (is_within low high) s k

-- one owner has at most 65,535 generic parameters, parameters, locals or clauses: the first token of the first of these past
-- that
abbrev pub first_of : List Forest → List ℕ
first_of [] = []
first_of (f ∷ fs) = first_token f ∷ []

abbrev pub past_count : List Forest → List ℕ
past_count fs = first_of (drop 65535 fs)

-- ---- names

-- a name without `[k]`, or with the name of this assembly in it, is the path of a class of this source
abbrev pub path_undeclared : Source → List ℕ → Option Scope → List ℕ
path_undeclared s [] scope = []
path_undeclared s (k ∷ ks) None = []
path_undeclared s (k ∷ ks) (Some (Extern n)) = []
path_undeclared s (k ∷ ks) (Some Here) = if is_declared_path s (map (type_id s) (k ∷ ks)) then [] else k ∷ []

abbrev pub type_undeclared_in : Source → Option Written → List ℕ
type_undeclared_in s None = []
type_undeclared_in s (Some w) = path_undeclared s w.path (written_scope s w.scope)

abbrev pub type_undeclared : Source → Node → List ℕ
type_undeclared s n = type_undeclared_in s (written_name n.production n.below)

-- `[k]` is the key of an assembly, or the name of this one
abbrev pub scope_token_unless : Bool → Option ℕ → List ℕ
scope_token_unless known None = []
scope_token_unless known (Some k) = if known then [] else k ∷ []

abbrev pub scope_undeclared_in : Source → Option Written → List ℕ
scope_undeclared_in s None = []
scope_undeclared_in s (Some w) = scope_token_unless (is_some (written_scope s w.scope)) w.scope

abbrev pub scope_undeclared : Source → Node → List ℕ
scope_undeclared s n = scope_undeclared_in s (written_name n.production n.below)

-- a path has at most 100 names
abbrev pub past_100_names : List ℕ → List ℕ
past_100_names [] = []
past_100_names (k ∷ ks) = if nat_lt 99 (length ks) then k ∷ [] else []

abbrev pub path_too_long_in : Option Written → List ℕ
path_too_long_in None = []
path_too_long_in (Some w) = past_100_names w.path

abbrev pub path_too_long : Node → List ℕ
path_too_long n = path_too_long_in (written_name n.production n.below)

-- ---- generic parameters

-- the token of this name, unless it is among these
abbrev pub name_unless_among : Source → List (List ℕ) → ℕ → List ℕ
name_unless_among s names k = if list_any (bytes_eq (name_text s k)) names then [] else k ∷ []

-- a generic parameter that is named is one of the class around it, or of the method
abbrev pub index_undeclared : Source → List (List ℕ) → Forest → List ℕ
index_undeclared s names f = if has INDEX_NAME f then name_unless_among s names (leaf_at 0 (the INDEX_NAME f)) else []

abbrev pub typar_undeclared : Source → Node → List ℕ
typar_undeclared s n =
    if n.production == TYPE_BASE_BANG then index_undeclared s (typar_names s n.around.class) n.below
    else if n.production == TYPE_BASE_DOUBLE_BANG then index_undeclared s (typar_names s n.around.method) n.below
    else []

-- one that is numbered has a number of 16 bits
abbrev pub index_out_of_range : Source → Node → List ℕ
index_out_of_range s n =
    if (n.production == TYPE_BASE_BANG || n.production == TYPE_BASE_DOUBLE_BANG) && has INDEX_INT n.below
    then out_of (pos 0) (pos 65535) s (leaf_at 0 (the INDEX_INT n.below))
    else []

-- ---- arrays

-- lower bounds are from -2^28 to 2^28 - 1
abbrev pub lower_out_of_range : Source → Option ℕ → List ℕ
lower_out_of_range s None = []
lower_out_of_range s (Some k) = out_of (negsuc 0xFFFFFFF) (pos 0xFFFFFFF) s k

-- sizes are from 0 to 2^29 - 1; a size that follows from two bounds is at fault at the upper one
abbrev pub size_out_of_range : Source → Option ℕ → Option ℕ → List ℕ
size_out_of_range s lower None = []
size_out_of_range s lower (Some k) = if is_within (pos 0) (pos 0x1FFFFFFF) (size_value s lower k) then [] else k ∷ []

abbrev pub bound_out_of_range : Source → Bound → List ℕ
bound_out_of_range s b = lower_out_of_range s b.lower ++ size_out_of_range s b.lower b.size

-- the dimensions with a size are the first ones: the first size that follows a dimension without one
abbrev pub or_later : Option ℕ → List ℕ → List ℕ
or_later None later = later
or_later (Some k) later = k ∷ []

abbrev pub first_size : List Bound → List ℕ
first_size [] = []
first_size (b ∷ bs) = or_later b.size (first_size bs)

abbrev pub size_after_gap : List Bound → List ℕ
size_after_gap [] = []
size_after_gap (b ∷ bs) = if is_some b.size then size_after_gap bs else first_size bs

-- a rank is at most 32: the comma that begins dimension 33
abbrev pub comma_past_rank : List ℕ → List ℕ
comma_past_rank [] = []
comma_past_rank (k ∷ ks) = k ∷ []

abbrev pub shape_out_of_range : Source → Forest → List ℕ
shape_out_of_range s f =
    if is_vector f then []
    else flat_map (bound_out_of_range s) (dimensions f) ++ size_after_gap (dimensions f) ++ comma_past_rank (drop 31 (commas s f))

abbrev pub array_out_of_range : Source → Node → List ℕ
array_out_of_range s n = if n.production == TYPE_SUFFIX_BRACKET then shape_out_of_range s n.below else []

-- ---- signatures

-- `<[n]>` is from 1 to 65,535
abbrev pub generic_number_out_of_range : Source → Node → List ℕ
generic_number_out_of_range s n =
    if n.production == GEN_ARGS_BRACKET then out_of (pos 1) (pos 65535) s (leaf_at 1 n.below)
    else if n.production == GEN_ARGS_TYPE then past_count (each TYPE n.below)
    else []

-- the arguments of a reference, and the parameters of a method, are at most 65,535
abbrev pub arguments_out_of_range : Node → List ℕ
arguments_out_of_range n =
    if n.production == SIGNATURE || n.production == DEF_ARGS then past_count (each DEF_ARG n.below) else []

-- a signature has at most one `...`
abbrev pub second_of : List Forest → List ℕ
second_of fs = first_of (drop 1 fs)

abbrev pub second_ellipsis : Node → List ℕ
second_ellipsis n = if n.production == SIGNATURE then second_of (each SIG_ARG_ELLIPSIS n.below) else []

-- the flags of a parameter have 16 bits
abbrev pub parameter_flags_out_of_range : Source → Node → List ℕ
parameter_flags_out_of_range s n =
    if n.production == PARAM_ATTR_FLAGS then out_of (pos 0) (pos 0xFFFF) s (flags_token n.below) else []

-- generic parameters are at most 65,535
abbrev pub typars_out_of_range : Node → List ℕ
typars_out_of_range n = if n.production == TYPARS then past_count (each TYPAR n.below) else []

-- those of a signature that are out of their ranges
abbrev pub number_in_signature_out_of_range : Source → Node → List ℕ
number_in_signature_out_of_range s n =
    index_out_of_range s n ++ array_out_of_range s n ++ generic_number_out_of_range s n ++ arguments_out_of_range n
    ++ second_ellipsis n

-- all of these; the flags of a parameter stand among its types and are no part of a signature
abbrev pub number_in_type_out_of_range : Source → Node → List ℕ
number_in_type_out_of_range s n = number_in_signature_out_of_range s n ++ parameter_flags_out_of_range s n

-- a type is at most 100 deep: its first token
abbrev pub type_too_deep : Source → Node → List ℕ
type_too_deep s n =
    if n.production == TYPE && nat_lt 100 (depth (type_of s n.around n.below)) then first_token n.below ∷ [] else []

-- ---- whether a signature is broken

-- what of all these a production in a signature breaks
abbrev pub breaks_signature : Source → Node → List ℕ
breaks_signature s n =
    type_undeclared s n ++ scope_undeclared s n ++ typar_undeclared s n ++ number_in_signature_out_of_range s n
    ++ type_too_deep s n ++ path_too_long n

abbrev pub is_nothing : List ℕ → Bool
is_nothing ks = length ks == 0

abbrev pub are_unbroken : Source → List Node → Bool
are_unbroken s ns = is_nothing (flat_map (breaks_signature s) ns)
