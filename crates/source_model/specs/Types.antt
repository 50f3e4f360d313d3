-- Types as they are written, and the terms that they stand for (ECMA-335 II.7.1, II.14.2, II.23.2.12).
use Rattle.std.specs.Prelude.{ℕ, ◌==◌, ◌||◌, Bool, true, false, if◌then◌else◌, List, [], ◌∷◌, ◌++◌, length, map, position, bytes_eq, Option, None, Some}
use Rattle.type_terms.specs.declared.name.TypeName.{TypeName}
use Rattle.type_terms.specs.declared.term.Primitive.{Primitive}
use Rattle.type_terms.specs.declared.term.Primitive.TheVariants as prim
use Rattle.type_terms.specs.declared.term.Owner.{Owner, Name, Spec}
use Rattle.type_terms.specs.declared.term.SigType.{SigType, Prim, Class, Value, Inst, Var, MVar, SzArray, Array, ByRef, Pointer, Mod, Pinned}
use Rattle.ilasm_grammar.specs.declared.productions.TheConstants.{TYPE, TYPE_BASE_VOID, TYPE_BASE_BOOL, TYPE_BASE_CHAR, TYPE_BASE_STRING, TYPE_BASE_OBJECT, TYPE_BASE_TYPEDREF, TYPE_BASE_FLOAT32, TYPE_BASE_FLOAT64, TYPE_BASE_INT_TYPE, TYPE_BASE_NATIVE, TYPE_BASE_CLASS, TYPE_BASE_VALUETYPE, TYPE_BASE_BANG, INT_TYPE_INT8, INT_TYPE_INT16, INT_TYPE_INT32, INT_TYPE_INT64, INT_TYPE_UINT8, INT_TYPE_UINT16, INT_TYPE_UINT32, UNSIGNED_INT_INT8, UNSIGNED_INT_INT16, UNSIGNED_INT_INT32, NATIVE_INT_INT, INDEX_INT, INDEX_NAME, TYPE_SUFFIX_BRACKET, TYPE_SUFFIX_AMPERSAND, TYPE_SUFFIX_STAR, TYPE_SUFFIX_PINNED, TYPE_SUFFIX_MODREQ, TYPE_SUFFIX_MODOPT, SPEC_TYPE_NAME, SPEC_TYPE}
use Rattle.source_model.specs.Forest.{Forest, none, leaf, branch, is_among, has, the, leaf_at}
use Rattle.source_model.specs.Names.{module_name, type_name}
use Rattle.source_model.specs.Nodes.{Around, typar_names}
use Rattle.source_model.specs.Shapes.{natural, dimensions, sizes, lower_bounds, is_vector}
use Rattle.source_model.specs.Source.{Source}
use Rattle.source_model.specs.Values.{int_at, name_text}

-- ---- bases

-- an integer type, by the production of its word
abbrev pub int_type : Forest → Primitive
int_type f =
    if has INT_TYPE_INT8 f then prim.I1 else if has INT_TYPE_INT16 f then prim.I2
    else if has INT_TYPE_INT32 f then prim.I4 else if has INT_TYPE_INT64 f then prim.I8
    else if has INT_TYPE_UINT8 f || has UNSIGNED_INT_INT8 f then prim.U1
    else if has INT_TYPE_UINT16 f || has UNSIGNED_INT_INT16 f then prim.U2
    else if has INT_TYPE_UINT32 f || has UNSIGNED_INT_INT32 f then prim.U4
    else prim.U8

-- the number of the first of the names that is the text; that of the names where none is
abbrev pub or_length : Option ℕ → List (List ℕ) → ℕ
or_length None names = length names
or_length (Some k) names = k

abbrev pub number_of : List (List ℕ) → List ℕ → ℕ
number_of names text = or_length (position (bytes_eq text) names) names

-- the number of a generic parameter, written as a number or as one of these names
abbrev pub variable_number : Source → List (List ℕ) → Forest → ℕ
variable_number s names f =
    if has INDEX_INT f then natural (int_at s (leaf_at 0 (the INDEX_INT f)))
    else number_of names (name_text s (leaf_at 0 (the INDEX_NAME f)))

-- a class or a value type, with generic arguments where it has some
abbrev pub named_type : Bool → TypeName → List SigType → SigType
named_type value name [] = if value then Value name else Class name
named_type value name (t ∷ ts) = Inst value name (t ∷ ts)

-- the type of a base, from its production, what stands below that, and the types of its generic arguments. `!T` is a
-- generic parameter of the innermost class around it, `!!T` one of the method.
abbrev pub base_type : Source → Around → ℕ → Forest → List SigType → SigType
base_type s a p f args =
    if p == TYPE_BASE_VOID then Prim prim.Void else if p == TYPE_BASE_BOOL then Prim prim.Bool
    else if p == TYPE_BASE_CHAR then Prim prim.Char else if p == TYPE_BASE_STRING then Prim prim.Str
    else if p == TYPE_BASE_OBJECT then Prim prim.Object else if p == TYPE_BASE_TYPEDREF then Prim prim.TypedRef
    else if p == TYPE_BASE_FLOAT32 then Prim prim.R4 else if p == TYPE_BASE_FLOAT64 then Prim prim.R8
    else if p == TYPE_BASE_INT_TYPE then Prim (int_type f)
    else if p == TYPE_BASE_NATIVE then (if has NATIVE_INT_INT f then Prim prim.NInt else Prim prim.NUint)
    else if p == TYPE_BASE_CLASS then named_type false (type_name s f) args
    else if p == TYPE_BASE_VALUETYPE then named_type true (type_name s f) args
    else if p == TYPE_BASE_BANG then Var (variable_number s (typar_names s a.class) f)
    else MVar (variable_number s (typar_names s a.method) f)

-- ---- suffixes

abbrev pub suffixes : List ℕ
suffixes =
    TYPE_SUFFIX_BRACKET ∷ TYPE_SUFFIX_AMPERSAND ∷ TYPE_SUFFIX_STAR ∷ TYPE_SUFFIX_PINNED ∷ TYPE_SUFFIX_MODREQ ∷ TYPE_SUFFIX_MODOPT
    ∷ []

abbrev pub array : Source → Forest → SigType → SigType
array s f t =
    if is_vector f then SzArray t
    else Array t (length (dimensions f)) (sizes s (dimensions f)) (lower_bounds s (dimensions f))

-- the first of these owners; where there is none, the class of what stands outside of any class
abbrev pub first_owner : List Owner → Owner
first_owner [] = Name module_name
first_owner (o ∷ os) = o

-- the type with a suffix around it, from the suffix's production, what stands below that, and the owners in it
abbrev pub suffix : Source → ℕ → Forest → List Owner → SigType → SigType
suffix s p f by t =
    if p == TYPE_SUFFIX_AMPERSAND then ByRef t else if p == TYPE_SUFFIX_STAR then Pointer t
    else if p == TYPE_SUFFIX_PINNED then Pinned t else if p == TYPE_SUFFIX_MODREQ then Mod true (first_owner by) t
    else if p == TYPE_SUFFIX_MODOPT then Mod false (first_owner by) t
    else array s f t

-- ---- types and owners

module _ (s : Source) (a : Around) where
  unfoldable mutual
    -- the types that stand in a forest, and none that stands within another
    pub types_in : Forest → List SigType
    types_in none = []
    types_in (leaf token after) = types_in after
    types_in (branch p below after) = (if p == TYPE then type_of below ∷ [] else types_in below) ++ types_in after

    -- a type, from what stands below its production: its base with its suffixes
    pub type_of : Forest → SigType
    type_of none = Prim prim.Void
    type_of (leaf token after) = Prim prim.Void
    type_of (branch p below after) = suffixed after (base_type s a p below (types_in below))

    -- the type with these suffixes, each around what stands before it
    pub suffixed : Forest → SigType → SigType
    suffixed none t = t
    suffixed (leaf token after) t = suffixed after t
    suffixed (branch p below after) t =
        suffixed after (if is_among suffixes p then suffix s p below (owners_in below) t else suffixed below t)

    -- the owners that stand in a forest, and none that stands within another: a name alone is a name, and any type a type
    pub owners_in : Forest → List Owner
    owners_in none = []
    owners_in (leaf token after) = owners_in after
    owners_in (branch p below after) =
        (if p == SPEC_TYPE_NAME then Name (type_name s below) ∷ []
        else if p == SPEC_TYPE then map Spec (types_in below)
        else owners_in below)
        ++ owners_in after

  -- the first type, and the first owner, in a forest
  abbrev pub first_type : List SigType → SigType
  first_type [] = Prim prim.Void
  first_type (t ∷ ts) = t

  abbrev pub the_type : Forest → SigType
  the_type f = first_type (types_in f)

  abbrev pub the_owner : Forest → Owner
  the_owner f = first_owner (owners_in f)
